use Rattle.std.proofs.Common.{◌≤◌, ◌<◌, suc, arith, pow-suc}
use native.Mathlib.Nat.{pow-le-pow_right}
use Rattle.fast_float.proofs.ExactLemmas.{ten_to_pos}
use Rattle.otel_float.proofs.shortest.ten_to.Goals as goal

pub overflow_mul-power : goal.overflow_mul-power
overflow_mul-power c =
    let ten : 0 < 10 = omega arith in
    let next : suc c.loop-turn._turn ≤ 17 = omega arith in
    omega (arith, c.loop-turn.invariant, pow-suc 10 c.loop-turn._turn, pow-le-pow_right ten next)

pub returns-clause-some : goal.returns-clause-some
returns-clause-some c = omega (arith, c.loop-turn.invariant, ten_to_pos c.loop-turn._turn)
