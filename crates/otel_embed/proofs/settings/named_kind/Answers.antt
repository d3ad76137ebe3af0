use Rattle.std.proofs.Common.{◌∙◌, None, Some, ap, refl}
use Rattle.std.specs.Option.{option_and_then}
use Rattle.opentelemetry.specs.TextMap.{text_map}
use Rattle.otel_embed.specs.SettingLines.{kind_named, processor_name}
use Rattle.otel_embed.proofs.SettingMaps.{found_in}
use Rattle.otel_embed.proofs.settings.named_kind.Goals as goal

pub returns-in-Some : goal.returns-in-Some
returns-in-Some c =
    c.kind_named.ensures ∙ ap kind_named c.as_str.ensures.value
    ∙ ap (option_and_then kind_named) (found_in c.args.values.now (text_map c.args.values.now) processor_name (Some c.in-Some.text.now) refl c.in-Some.ensures.value)

pub returns-in-None : goal.returns-in-None
returns-in-None c = ap (option_and_then kind_named) (found_in c.args.values.now (text_map c.args.values.now) processor_name None refl c.in-None.ensures.value)
