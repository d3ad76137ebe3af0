use Rattle.otel_pipeline.proofs.SpanLaws.{over_history}
use Rattle.otel_pipeline.proofs.trace.span.Span.take_recorded.Goals as goal

pub invariant_of-self : goal.invariant_of-self
invariant_of-self c = over_history _ _ _ c.take.ensures.none
