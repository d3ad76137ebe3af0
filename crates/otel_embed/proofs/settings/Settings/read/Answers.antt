use Rattle.std.proofs.Common.{◌∙◌, ap}
use Rattle.std.specs.FinMap.{empty}
use Rattle.std.specs.List.{fold}
use Rattle.std.proofs.lemmas.Iterator.Consumers.{YieldsList-at, YieldsList-end}
use Rattle.std.proofs.lemmas.Iterator.Splits.{YieldsList-from_lines}
use Rattle.opentelemetry.specs.TextMap.{text_map}
use Rattle.otel_embed.specs.SettingLines.{with_line}
use Rattle.otel_embed.proofs.SettingMaps.{line_more, no_settings}
use Rattle.otel_embed.proofs.settings.Settings.read.Goals as goal

pub loop-line-init : goal.loop-line-init
loop-line-init c = no_settings c.new-values.result c.new-values.ensures.empty

pub loop-line-preserved : goal.loop-line-preserved
loop-line-preserved c = line_more (text_map c.loop-line.values) (text_map c.add_line.new.values) c.loop-line.yielded c.in-Some.line c.loop-line.invariant c.in_ok-add_line.ensures

pub returns : goal.returns
returns c =
    let lines = YieldsList-at c.into_iter-line-iterator.ensures.into_iter_gives (YieldsList-from_lines c.args.text.now c.lines-line-items.ensures.rest) in
    c.loop-line.invariant ∙ ap (fold with_line empty) (YieldsList-end lines c.loop-line.yielded _ c.loop-line.yielded_by _ _ c.in-None.is c.next.ensures.steps).0
