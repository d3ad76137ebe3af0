use Rattle.std.proofs.Common.{◌∙◌, List, ℕ, ap, string_bytes, sym}
use Rattle.std.specs.FinMap.{insert}
use Rattle.opentelemetry.specs.TextMap.{text_map}
use Rattle.opentelemetry.proofs.TextMapLemmas.{text_map-insert}
use Rattle.otel_embed.specs.SettingLines.{setting_of}
use Rattle.otel_embed.proofs.SettingMaps.{line_added}
use Rattle.otel_embed.proofs.settings.add_line.Goals as goal

pub returns : goal.returns
returns c =
    let before = text_map c.args.values.now in
    text_map-insert c.args.values.now c.insert.new.self (string_bytes c.in_ok-name.name) c.in_ok-value.value c.in_ok-_earlier.ensures.updates
    ∙ ap (λ (name : List ℕ). insert before name (string_bytes c.in_ok-value.value)) (c.in_ok-name.ensures.ok ∙ c.setting_of.ensures.0)
    ∙ ap (λ (value : List ℕ). insert before (setting_of c.args.line.now).0 value) (c.in_ok-value.ensures.ok ∙ c.setting_of.ensures.1)
    ∙ sym (line_added before c.args.line.now (sym c.is_empty.ensures ∙ c.if-is_empty.false))
