use Rattle.std.proofs.Common.{◌≡◌, ◌+◌, ◌-◌, ◌≤◌}
use Rattle.otel_float.specs.FloatText as spec
use Rattle.otel_float.proofs.shortest.without_zeros.Given as goal

abbrev pub invariant-loop-turn : goal.invariant-loop-turn
invariant-loop-turn l = record {
  same : spec.without_zeros (17 - l._turn) l.left l.at ≡ spec.without_zeros 17 l.digits l.power;
  near : l.at ≤ l.power + l._turn;
}
