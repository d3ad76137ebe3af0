-- The spans so far are in the run.
use Rattle.std.proofs.Common.{◌≡◌, ◌-◌, ◌<◌, ◌≤◌, ℕ, get_or, length}
use Rattle.otel_otlp.proofs.parts.run_length.Given as goal

abbrev pub invariant-loop-count : goal.invariant-loop-count
invariant-loop-count l = record {
  within : l.count ≤ length l.after;
  same : (k : ℕ) → k < l.count → (get_or l.after k l.first).instrumentation_scope ≡ l.first.instrumentation_scope;
}

abbrev pub decreases-loop-count : goal.decreases-loop-count
decreases-loop-count l = length l.after - l.count
