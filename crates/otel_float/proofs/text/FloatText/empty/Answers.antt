use Rattle.std.proofs.Common.{ℕ, zero, suc, ◌<◌, get_or, replicate, arith}
use Rattle.otel_float.proofs.text.FloatText.empty.Goals as goal

ascii_zeros : (n i : ℕ) → get_or (replicate n 0) i 0 < 128
ascii_zeros zero i = omega arith
ascii_zeros (suc n) zero = omega arith
ascii_zeros (suc n) (suc i) = ascii_zeros n i

pub invariant_of-result : goal.invariant_of-result
invariant_of-result c = (omega arith, (ascii_zeros 64, tt))
