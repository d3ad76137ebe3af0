-- What takes the runs that are left has taken them all.
use Rattle.std.proofs.Common.{length}
use Rattle.otel_otlp.specs.ScopeRuns.{scope_runs}
use Rattle.otel_otlp_protobuf.specs.NamedRequest.{run_members}
use Rattle.otel_otlp_protobuf.specs.Said.{message_fields}
use Rattle.otel_protobuf.specs.Progress.{Progress, TakesFields}
use Rattle.otel_protobuf.specs.Wire.{repeated}
use Rattle.otel_otlp_protobuf.proofs.request.runs.Given as goal

abbrev pub invariant-loop-last : goal.invariant-loop-last
invariant-loop-last l =
    (new : Progress)
    → TakesFields l.sink new (repeated 2 (λ run. message_fields (run_members run)) (scope_runs l.rest))
    → TakesFields l.fn.sink new (repeated 2 (λ run. message_fields (run_members run)) (scope_runs l.fn.spans))

abbrev pub decreases-loop-last : goal.decreases-loop-last
decreases-loop-last l = length l.rest
