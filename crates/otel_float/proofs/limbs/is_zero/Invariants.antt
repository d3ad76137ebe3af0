use Rattle.std.proofs.Common.{◌≡◌, ℕ, ◌<◌, get_or}
use Rattle.otel_float.proofs.limbs.is_zero.Given as goal

abbrev pub invariant-loop-limb : goal.invariant-loop-limb
invariant-loop-limb l = (k : ℕ) → k < l.limb-index → get_or l.limbs k 0 ≡ 0
