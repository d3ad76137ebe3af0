use Rattle.otel_pipeline.specs.SpanHistory.{add_event}
use Rattle.otel_pipeline.proofs.SpanLaws.{edited_by_result, keeps_history}
use Rattle.otel_pipeline.proofs.trace.span.Span.add_event_with_timestamp.Goals as goal

pub returns-clause-edits : goal.returns-clause-edits
returns-clause-edits c = edited_by_result c.add_event.result (add_event c.new-event.result) _ _ c.self.inside.recorded _ c.args.self.now c.self.view_is c.add_event.ensures.ok c.add_event.ensures.err

pub invariant_of-self : goal.invariant_of-self
invariant_of-self c = keeps_history c.add_event.result (add_event c.new-event.result) _ _ c.self.inside.recorded _ c.self.invariant c.add_event.ensures.ok c.add_event.ensures.err
