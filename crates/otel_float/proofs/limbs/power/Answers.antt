use Rattle.std.proofs.Common.{◌*◌, ◌<◌, ◌≤◌, suc, ap, arith, pow-suc}
use native.Mathlib.Nat.{pow-le-pow_right}
use Rattle.otel_float.proofs.limbs.power.Goals as goal

pub overflow_mul-power : goal.overflow_mul-power
overflow_mul-power c =
    let some : 0 < c.args.base = omega arith in
    let next : suc c.loop-turn._turn ≤ c.args.count = omega arith in
    omega (arith, ap (λ x. x * c.args.base) c.loop-turn.invariant, pow-suc c.args.base c.loop-turn._turn, pow-le-pow_right some next)
