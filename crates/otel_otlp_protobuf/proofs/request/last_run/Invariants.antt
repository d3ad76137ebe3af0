-- The spans so far are of the last one's scope.
use Rattle.std.proofs.Common.{◌≤◌, drop, length}
use Rattle.otel_otlp_protobuf.proofs.LastRun.{AreOf}
use Rattle.otel_otlp_protobuf.proofs.request.last_run.Given as goal

abbrev pub invariant-loop-begin : goal.invariant-loop-begin
invariant-loop-begin l = (l.begin ≤ length l.before) × AreOf l.last (drop l.begin l.before)

abbrev pub decreases-loop-begin : goal.decreases-loop-begin
decreases-loop-begin l = l.begin
