use Rattle.std.proofs.Common.{rules, ◌≡◌, ℕ, ◌+◌, ◌<◌, ◌≤◌, ◌&&◌, length, Bool, true, false, List, [], ◌∷◌, drop, get_or, sym, ap, ◌∙◌, refl, Float}
use Rattle.std.specs.Cmp.Lexicographic.{pointwise, unequal}
use Rattle.std.specs.Float.Ieee.{nan}
use Rattle.std.proofs.lemmas.List.{at_drop_more, at_drop_all}
use native.Mathlib.Omega.{arith}
use Rattle.opentelemetry.specs.Same.{same_float}
use Rattle.opentelemetry.proofs.common.float.same_floats.Goals as goal

-- the test of the pair at a place, and of the parts after it
turn : (these those : List Float) (i : ℕ) → i < length these → i < length those → (told : Bool)
    → told ≡ same_float (get_or these i nan) (get_or those i nan)
    → told && pointwise same_float (drop (i + 1) these) (drop (i + 1) those)
    ≡ pointwise same_float (drop i these) (drop i those)
turn these those i within within_those told is =
    ap (λ b. b && pointwise same_float (drop (i + 1) these) (drop (i + 1) those)) is
    ∙ sym (at_drop_more (λ xs. pointwise same_float xs (drop i those)) these i nan within
    ∙ at_drop_more (pointwise same_float (get_or these i nan ∷ drop (i + 1) these)) those i nan within_those)

pub returns-then-these-those : goal.returns-then-these-those
returns-then-these-those c = sym (unequal same_float _ _ c.if-these-those.true)

pub loop-place-init : goal.loop-place-init
loop-place-init c = (c.if-these-those.false, (search rules, refl))

pub returns-then-not-same_float : goal.returns-then-not-same_float
returns-then-not-same_float c =
    let same = c.loop-place.invariant.0 in
    let within = c.loop-place-test.true in
    turn c.args.these.now c.args.those.now c.loop-place.place within (omega arith) false (c.if-not-same_float.ensures)
    ∙ c.loop-place.invariant.1.1

pub loop-place-preserved : goal.loop-place-preserved
loop-place-preserved c =
    let same = c.loop-place.invariant.0 in
    let within = c.loop-place-test.true in (
      same,
      (
        omega arith,
        turn c.args.these.now c.args.those.now c.loop-place.place within (omega arith) true (c.if-not-same_float.ensures)
            ∙ c.loop-place.invariant.1.1,
      ),
    )

pub returns : goal.returns
returns c =
    let same = c.loop-place.invariant.0 in
    let past = c.loop-place-test.false in
    sym (at_drop_all (λ xs. pointwise same_float xs (drop c.loop-place.place c.args.those.now)) c.args.these.now
    c.loop-place.place (omega arith)
    ∙ at_drop_all (pointwise same_float []) c.args.those.now c.loop-place.place (omega arith))
    ∙ c.loop-place.invariant.1.1
