use Rattle.std.proofs.Common.{◌≡◌, replicate}
use Rattle.otel_pipeline.specs.SpanHistory.{ended_at}
use Rattle.otel_pipeline.proofs.trace.each_processor.copies_of.Given as goal

abbrev pub invariant-loop-i : goal.invariant-loop-i
invariant-loop-i l = l.copies.items ≡ replicate l._i (ended_at l.timestamp.0 l.recorded)
