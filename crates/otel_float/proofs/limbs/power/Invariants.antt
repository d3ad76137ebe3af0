use Rattle.std.proofs.Common.{◌≡◌, ◌^◌}
use Rattle.otel_float.proofs.limbs.power.Given as goal

abbrev pub invariant-loop-turn : goal.invariant-loop-turn
invariant-loop-turn l = l.power ≡ l.base ^ l._turn
