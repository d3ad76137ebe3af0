use Rattle.std.proofs.Common.{◌≡◌, ◌^◌}
use Rattle.otel_float.proofs.shortest.ten_to.Given as goal

abbrev pub invariant-loop-turn : goal.invariant-loop-turn
invariant-loop-turn l = l.power ≡ 10 ^ l._turn
