use Rattle.std.proofs.Common.{◌≡◌, ◌-◌, ◌≤◌}
use Rattle.otel_float.specs.FloatText as spec
use Rattle.otel_float.proofs.shortest.kept_count.Given as goal

abbrev pub invariant-loop-count : goal.invariant-loop-count
invariant-loop-count l = record {
  same : spec.count_from (17 - l.count) l.bits l.count ≡ spec.kept_count l.bits;
  some : 1 ≤ l.count;
}
