use Rattle.otel_pipeline.specs.SpanHistory.{set_attribute}
use Rattle.otel_pipeline.proofs.SpanLaws.{edited_by_result, keeps_history}
use Rattle.otel_pipeline.proofs.trace.span.Span.set_attribute.Goals as goal

pub returns-clause-edits : goal.returns-clause-edits
returns-clause-edits c = edited_by_result c.set_attribute.result (set_attribute _) _ _ c.self.inside.recorded _ c.args.self.now c.self.view_is c.set_attribute.ensures.ok c.set_attribute.ensures.err

pub invariant_of-self : goal.invariant_of-self
invariant_of-self c = keeps_history c.set_attribute.result (set_attribute _) _ _ c.self.inside.recorded _ c.self.invariant c.set_attribute.ensures.ok c.set_attribute.ensures.err
