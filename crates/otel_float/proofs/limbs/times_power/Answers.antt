use Rattle.std.proofs.Common.{◌≡◌, ℕ, zero, suc, ◌+◌, ◌*◌, ◌/◌, ◌%◌, ◌^◌, ◌<◌, ◌≤◌, sym, ap, ◌∙◌, arith, pow-add, pow-suc, mod-lt, mul-pos, mul-zero, mul-one, mul_assoc, div-add-mod', mul_comm}
use native.Mathlib.Nat.{pow-le-pow_right, pow-zero}
use Rattle.otel_float.specs.Limbs.{value_of}
use Rattle.otel_float.proofs.limbs.times_power.Goals as goal

power_pos : (b k : ℕ) → 0 < b → 0 < b ^ k
power_pos b zero h = rw (pow-zero b) (omega arith)
power_pos b (suc k) h = rw (pow-suc b k) (mul-pos (power_pos b k h) h)

rest_fits : (b step count : ℕ) → 1 < b → 0 < step → b ^ step ≤ 10 ^ 9 → b ^ (count % step) ≤ 10 ^ 9
rest_fits b step count large some fits =
    let one : 0 < b = omega arith in
    let less : count % step ≤ step = omega (arith, mod-lt count some) in
    omega (arith, pow-le-pow_right one less)

turned : (v b step turn : ℕ) → v * b ^ (step * turn) * b ^ step ≡ v * b ^ (step * (turn + 1))
turned v b step turn =
    let e : step * (turn + 1) ≡ step * turn + step = omega arith in
    rw (e, pow-add b (step * turn) step) (mul_assoc v _ _)

joined : (v b step count turn : ℕ) → turn ≡ count / step → v * b ^ (step * turn) * b ^ (count % step) ≡ v * b ^ count
joined v b step count turn e =
    let sum : step * turn + count % step ≡ count = ap (λ n. step * n + count % step) e ∙ ap (λ n. n + count % step) (mul_comm step (count / step)) ∙ div-add-mod' count step in
    mul_assoc v _ _ ∙ ap (λ n. v * n) (sym (pow-add b (step * turn) (count % step)) ∙ ap (λ n. b ^ n) sum)

pub loop-turn-init : goal.loop-turn-init
loop-turn-init c = record {
  value = rw (mul-zero c.args.step, pow-zero c.args.base) (sym (mul-one _));
  limbs = c.requires.limbs;
  in_use = c.requires.in_use;
  few = omega arith;
}

pub times-used-requires-clause-factor : goal.times-used-requires-clause-factor
times-used-requires-clause-factor c = rw c.power-chunk.ensures (power_pos c.args.base c.args.step (omega arith), c.requires.base.2)

pub loop-turn-preserved : goal.loop-turn-preserved
loop-turn-preserved c =
    let v = c.loop-turn.invariant in
    let t = c.times-used.ensures in
    record {
      value = t.value ∙ ap (λ n. value_of c.loop-turn.limbs c.loop-turn.used * n) c.power-chunk.ensures ∙ ap (λ n. n * c.args.base ^ c.args.step) v.value ∙ turned _ c.args.base c.args.step c.loop-turn._turn;
      limbs = t.limbs;
      in_use = t.in_use;
      few = omega (arith, t.len, v.few);
    }

pub power-requires-clause-small : goal.power-requires-clause-small
power-requires-clause-small c = rest_fits c.args.base c.args.step c.args.count c.requires.base.0 c.requires.base.1 c.requires.base.2

pub times-requires-clause-factor : goal.times-requires-clause-factor
times-requires-clause-factor c =
    rw c.power.ensures (power_pos c.args.base (c.args.count % c.args.step) (omega arith), rest_fits c.args.base c.args.step c.args.count c.requires.base.0 c.requires.base.1 c.requires.base.2)

pub returns-clause-value : goal.returns-clause-value
returns-clause-value c =
    let v = c.loop-turn.invariant in
    let t = c.times.ensures in
    t.value ∙ ap (λ n. value_of c.loop-turn.limbs c.loop-turn.used * n) c.power.ensures ∙ ap (λ n. n * c.args.base ^ (c.args.count % c.args.step)) v.value
    ∙ joined _ c.args.base c.args.step c.args.count c.loop-turn._turn (omega arith)

pub returns-then-count-eq0-clause-value : goal.returns-then-count-eq0-clause-value
returns-then-count-eq0-clause-value c = rw (c.if-count-eq0.true, pow-zero c.args.base) (sym (mul-one _))
