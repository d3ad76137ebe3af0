use Rattle.std.proofs.Common.{◌≡◌, List, ℕ, ⊎_elim, inr, refl, sym, subst, ap, ◌∙◌}
use Rattle.std.specs.Borrow.{Bor}
use Rattle.opentelemetry.specs.Carrier.{Texts}
use Rattle.opentelemetry.specs.Headers.{header_text}
use Rattle.opentelemetry.specs.Plain.{PlainSpanContext}
use Rattle.opentelemetry.proofs.HeaderLemmas.{match_weaker, text_or_empty}
use Rattle.otel_propagators.specs.B3.{single_field, IsSingle}
use Rattle.otel_propagators.proofs.b3.read.read_span.Goals as goal

pub returns-in-None : goal.returns-in-None
returns-in-None g c =
    let texts : Texts = g.X.Extractor.reads c.args.extractor.now in
    let text : c.unwrap_or.result.now ≡ header_text (texts single_field) =
    ap (λ (b : Bor (List ℕ)). b.now) c.unwrap_or.ensures ∙ text_or_empty c.get.result _ refl ∙ ap header_text (c.get.ensures ∙ ap texts c.name.ensures) in
    let none_single : (other : PlainSpanContext) → ¬ (IsSingle (header_text (texts single_field)) other) =
    λ other is. c.in-None.ensures other (subst (λ (t : List ℕ). IsSingle t other) (sym text) is) in
    match_weaker c.read_many.result
    (λ none context says. ⊎_elim (none_single context) (λ many. none context many.1) says)
    (λ context is. inr (none_single, is))
    c.read_many.ensures
