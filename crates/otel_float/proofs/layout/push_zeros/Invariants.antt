use Rattle.std.proofs.Common.{◌≡◌, ◌+◌, ◌++◌, length, replicate}
use Rattle.otel_float.proofs.layout.push_zeros.Given as goal

abbrev pub invariant-loop-turn : goal.invariant-loop-turn
invariant-loop-turn l = (l.out ≡ l.fn.out ++ replicate l._turn 48) × (length l.out ≡ length l.fn.out + l._turn)
