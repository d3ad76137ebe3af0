-- The traces so far.
use Rattle.std.proofs.Common.{map, take}
use Rattle.std.specs.List.{AllZip}
use Rattle.otel_picture.specs.Families.{trace_ids}
use Rattle.otel_picture.specs.Traces.{IsTraceOf, plain_trace}
use Rattle.otel_picture.proofs.traces.traces_of.Given as goal

abbrev pub invariant-loop-group : goal.invariant-loop-group
invariant-loop-group l =
    AllZip (IsTraceOf l.spans) (take l.group-index (trace_ids l.spans)) (map plain_trace l.traces.items)
