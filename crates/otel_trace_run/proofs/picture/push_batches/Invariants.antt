-- The spans of the batches so far were appended.
use Rattle.std.proofs.Common.{◌≡◌, ◌++◌, map}
use Rattle.otel_export.specs.PlainSpanData.{spans_in}
use Rattle.otel_trace_run.proofs.picture.push_batches.Given as goal

abbrev pub invariant-loop-batch : goal.invariant-loop-batch
invariant-loop-batch l = l.spans.items ≡ l.fn.spans.items ++ spans_in (map (λ batch. batch.items) l.yielded)
