use Rattle.std.proofs.Common.{sym, ap, ◌∙◌}
use Rattle.std.specs.FinMap as fin
use Rattle.opentelemetry.specs.TextMap.{TextMap, text_map, texts_of, IsLowerName}
use Rattle.opentelemetry.proofs.TextMapLemmas.{get-text_map, first_text-texts_of}
use Rattle.opentelemetry.proofs.propagation.map_carrier.MapCarrierExtractor.get.Goals as goal

pub returns-then-is_lower_name : goal.returns-then-is_lower_name
returns-then-is_lower_name c =
    let low : IsLowerName c.args.key.now = c.is_lower_name.ensures.0 c.if-is_lower_name.true in
    c.text_at.ensures ∙ sym (get-text_map c.self.inside.texts c.args.key.now)
    ∙ ap (fin.get (text_map c.self.inside.texts)) (sym low)
    ∙ ap (λ (m : TextMap). texts_of m c.args.key.now) c.self.view_is

pub returns-else-is_lower_name : goal.returns-else-is_lower_name
returns-else-is_lower_name c =
    c.first_text.ensures ∙ first_text-texts_of c.self.inside.texts c.args.key.now c.self.invariant
    ∙ ap (λ (m : TextMap). texts_of m c.args.key.now) c.self.view_is
