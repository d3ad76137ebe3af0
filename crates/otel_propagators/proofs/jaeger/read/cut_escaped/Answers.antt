use Rattle.std.proofs.Common.{Some, None, List, ℕ, ◌∷◌, sym, ap, ◌∙◌, lit<}
use Rattle.std.proofs.lemmas.Str.Pattern.{split_after}
use Rattle.otel_propagators.proofs.JaegerLemmas.{after_percent, not_percent}
use Rattle.otel_propagators.proofs.jaeger.read.cut_escaped.Goals as goal

pub returns-in_err-front-clause-only : goal.returns-in_err-front-clause-only
returns-in_err-front-clause-only c = λ front rest digits is.
    absurd (split_after 37 c.args.text.now front (51 ∷ 65 ∷ rest) None c.in_err-front.ensures.cases (lit< tt) is (λ i inside. not_percent _ (digits i 0 inside)))

pub returns-in_err-strip_prefix-clause-only : goal.returns-in_err-strip_prefix-clause-only
returns-in_err-strip_prefix-clause-only c = λ front rest digits is.
    let parts = split_after 37 c.args.text.now front (51 ∷ 65 ∷ rest) (Some (c.in_ok-front.front, c.in_ok-front.after)) c.in_ok-front.ensures.cases (lit< tt) is (λ i inside. not_percent _ (digits i 0 inside)) in
    absurd (c.in_err-strip_prefix.ensures.cases rest parts.1)

pub returns-clause-only : goal.returns-clause-only
returns-clause-only c = λ front rest digits is.
    let parts = split_after 37 c.args.text.now front (51 ∷ 65 ∷ rest) (Some (c.in_ok-front.front, c.in_ok-front.after)) c.in_ok-front.ensures.cases (lit< tt) is (λ i inside. not_percent _ (digits i 0 inside)) in
    let found = c.in_ok-strip_prefix.ensures.cases in
    (parts.0, after_percent c.in_ok-front.after.now rest c.in_ok-strip_prefix.field-0.now parts.1 (found.1.1 ∙ ap (λ (l : List ℕ). 51 ∷ 65 ∷ l) (sym found.2)))
