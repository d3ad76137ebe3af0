use Rattle.std.proofs.Common.{◌≡◌, ℕ, ◌+◌, ◌*◌, ◌^◌, ◌<◌, ◌≤◌, get_or, take}
use Rattle.otel_float.specs.Limbs.{AreLimbs, limbs_value}
use Rattle.otel_float.proofs.limbs.multiply.Given as goal

abbrev pub invariant-loop-i : goal.invariant-loop-i
invariant-loop-i l = record {
  value : limbs_value (take l.i l.limbs) + 10 ^ (9 * l.i) * l.carry ≡ limbs_value (take l.i l.fn.limbs) * l.factor;
  limbs : AreLimbs l.limbs;
  small : l.carry < 10 ^ 9;
  rest : (k : ℕ) → l.i ≤ k → get_or l.limbs k 0 ≡ get_or l.fn.limbs k 0;
}
