use Rattle.std.proofs.Common.{◌≡◌, ℕ, ◌+◌, ◌-◌, ◌%◌, ◌<◌, suc, sym, ap, ◌∙◌, arith}
use Rattle.otel_float.specs.FloatText as spec
use Rattle.otel_float.proofs.Keeping.{zero_off, no_zero, no_more}
use Rattle.otel_float.proofs.shortest.without_zeros.Goals as goal

more_left : (n : ℕ) → n < 17 → 17 - n ≡ suc (17 - (n + 1))
more_left n h = omega arith

found : (turn left at digits power : ℕ) → turn < 17 → ¬ (left % 10 ≡ 0) → spec.without_zeros (17 - turn) left at ≡ spec.without_zeros 17 digits power → (left, at) ≡ spec.without_zeros 17 digits power
found turn left at digits power h none e =
    sym (no_zero (17 - (turn + 1)) left at none) ∙ ap (λ m. spec.without_zeros m left at) (sym (more_left turn h)) ∙ e

ended : (turn left at digits power : ℕ) → turn ≡ 17 → spec.without_zeros (17 - turn) left at ≡ spec.without_zeros 17 digits power → (left, at) ≡ spec.without_zeros 17 digits power
ended turn left at digits power h e = sym (no_more left at) ∙ ap (λ m. spec.without_zeros (17 - m) left at) (sym h) ∙ e

pub returns-then-left-ne0-clause-digits : goal.returns-then-left-ne0-clause-digits
returns-then-left-ne0-clause-digits c = let l = c.loop-turn in ap (λ p. p.0) (found l._turn l.left l.at c.args.digits c.args.power c.loop-turn-test.true c.if-left-ne0.true l.invariant.same)

pub returns-then-left-ne0-clause-power : goal.returns-then-left-ne0-clause-power
returns-then-left-ne0-clause-power c = let l = c.loop-turn in ap (λ p. p.1) (found l._turn l.left l.at c.args.digits c.args.power c.loop-turn-test.true c.if-left-ne0.true l.invariant.same)

pub loop-turn-preserved : goal.loop-turn-preserved
loop-turn-preserved c =
    let l = c.loop-turn in
    record {
      same =
          sym (zero_off (17 - (l._turn + 1)) l.left l.at c.if-left-ne0.false)
          ∙ ap (λ m. spec.without_zeros m l.left l.at) (sym (more_left l._turn c.loop-turn-test.true)) ∙ l.invariant.same;
      near = omega (arith, l.invariant.near);
    }

pub returns-clause-digits : goal.returns-clause-digits
returns-clause-digits c = let l = c.loop-turn in ap (λ p. p.0) (ended l._turn l.left l.at c.args.digits c.args.power (omega arith) l.invariant.same)

pub returns-clause-power : goal.returns-clause-power
returns-clause-power c = let l = c.loop-turn in ap (λ p. p.1) (ended l._turn l.left l.at c.args.digits c.args.power (omega arith) l.invariant.same)
