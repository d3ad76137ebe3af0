use Rattle.std.proofs.Common.{◌≡◌, ◌∷◌, ◌++◌, ◌==◌, [], List, ℕ, Some, true, length, ⊎_elim, sym, ap, ◌∙◌, append-nil, eq-eqb, arith}
use Rattle.std.proofs.lemmas.Bool.{both_ways}
use borrow.Author.Tests.{lt-ltb}
use Rattle.opentelemetry.specs.Hex.{hex_text}
use Rattle.otel_propagation.specs.Traceparent.{hyphen}
use Rattle.otel_propagation.proofs.TraceparentLemmas.{field_once, read_number, too_much}
use Rattle.otel_propagation.proofs.propagation.trace_context.read_flags.Goals as goal
use Rattle.otel_propagation.proofs.propagation.trace_context.read_flags.Goals.{then-version-gt0, else-version-gt0}

pub returns-in-Some-clause-only : goal.returns-in-Some-clause-only
returns-in-Some-clause-only c = λ flags rest small follows is.
    let value = c.in-Some.ensures.value in
    ap Some (field_once 2 c.in-Some.flags flags (hyphen ∷ c.in-Some.rest.now) rest value.0 small (sym value.1 ∙ is)).0

pub returns-in-Some-2-clause-only : goal.returns-in-Some-2-clause-only
returns-in-Some-2-clause-only c = λ flags rest small follows is.
    let value = c.in-Some.ensures.value in
    let after = (field_once 2 c.in-Some.flags flags (hyphen ∷ c.in-Some.rest.now) rest value.0 small (sym value.1 ∙ is)).1 in
    elim c.if-version-gt0.branch [
      | then-version-gt0 w ↦ absurd (both_ways c.if-version-gt0.value c.if-is_empty.false (w.value-is ∙ lt-ltb 0 c.args.version w.if-version-gt0.true))
      | else-version-gt0 w ↦
          let none : c.in-Some.rest.now ≡ [] = too_much c.args.version rest c.in-Some.rest.now follows after (omega (arith, w.if-version-gt0.false)) in
          let empty : (length c.in-Some.rest.now == 0) ≡ true = eq-eqb (length c.in-Some.rest.now) 0 (ap length none) in absurd (both_ways c.if-version-gt0.value c.if-is_empty.false (w.value-is ∙ w.is_empty.ensures ∙ empty))
    ]

pub returns-in-None-clause-only : goal.returns-in-None-clause-only
returns-in-None-clause-only c = λ flags rest small follows is.
    ⊎_elim
    (λ none. read_number c.number_from_hex.result 2 flags c.args.text.now c.number_from_hex.ensures.value c.number_from_hex.ensures.only.1 small
    (is ∙ ap (λ (t : List ℕ). hex_text 2 flags ++ t) none ∙ append-nil (hex_text 2 flags)))
    (λ more. absurd (c.in-None.ensures.only flags more.0 small (is ∙ ap (λ (t : List ℕ). hex_text 2 flags ++ t) more.1)))
    follows
