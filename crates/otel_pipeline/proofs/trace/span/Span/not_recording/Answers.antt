use Rattle.otel_pipeline.proofs.SpanLaws.{over_history}
use Rattle.otel_pipeline.proofs.trace.span.Span.not_recording.Goals as goal

pub invariant_of-result : goal.invariant_of-result
invariant_of-result c = over_history c.args.span_context c.args.span_limits _ c.none.ensures
