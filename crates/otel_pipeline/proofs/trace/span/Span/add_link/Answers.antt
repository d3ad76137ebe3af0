use Rattle.otel_pipeline.specs.SpanHistory.{add_link}
use Rattle.otel_pipeline.proofs.SpanLaws.{edited_by_result, keeps_history}
use Rattle.otel_pipeline.proofs.trace.span.Span.add_link.Goals as goal

pub returns-clause-edits : goal.returns-clause-edits
returns-clause-edits c = edited_by_result c.add_link.result (add_link c.new-link.result) _ _ c.self.inside.recorded _ c.args.self.now c.self.view_is c.add_link.ensures.ok c.add_link.ensures.err

pub invariant_of-self : goal.invariant_of-self
invariant_of-self c = keeps_history c.add_link.result (add_link c.new-link.result) _ _ c.self.inside.recorded _ c.self.invariant c.add_link.ensures.ok c.add_link.ensures.err
