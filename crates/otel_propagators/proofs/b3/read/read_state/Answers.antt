use Rattle.std.proofs.Common.{◌≡◌, true, false, sym, subst, ◌∙◌, ap}
use Rattle.std.specs.Option.{option_copied}
use Rattle.opentelemetry.specs.Hex.{IsHexText}
use Rattle.otel_propagators.specs.B3.{SaysState}
use Rattle.opentelemetry.proofs.HeaderLemmas.{match_weaker}
use Rattle.otel_propagators.proofs.B3Lemmas.{rest_read, rest_says}
use Rattle.otel_propagators.proofs.b3.read.read_state.Goals as goal

pub returns-then-not-is_parent : goal.returns-then-not-is_parent
returns-then-not-is_parent c = λ state says.
    let given = ap (λ r. option_copied r) c.in-Some.is in
    let alone : ¬ (IsHexText 16 c.in-Some.text.now) = λ is. let some = c.number_from_hex.ensures.only.1 is in absurd cc in
    let read = rest_read c.in-Some.text.now c.cut.result.0.now (option_copied c.cut.result.1) state alone c.cut.ensures.parts c.cut.ensures.first (subst (λ r. SaysState r state) given says) in
    let no : false ≡ true = sym c.if-not-is_parent.true ∙ c.is_parent.ensures.1 read.1 in absurd cc

pub returns : goal.returns
returns c =
    let given = ap (λ r. option_copied r) c.in-Some.is in
    let alone : ¬ (IsHexText 16 c.in-Some.text.now) = λ is. let some = c.number_from_hex.ensures.only.1 is in absurd cc in
    let after = option_copied c.cut.result.1 in
    match_weaker c.read_mark.result
    (λ none state says. none state (rest_read c.in-Some.text.now c.cut.result.0.now after state alone c.cut.ensures.parts c.cut.ensures.first (subst (λ r. SaysState r state) given says)).0)
    (λ state is. subst (λ r. SaysState r state) (sym given) (rest_says c.in-Some.text.now c.cut.result.0.now after state c.cut.ensures.parts is (c.is_parent.ensures.0 c.if-not-is_parent.false)))
    c.read_mark.ensures
