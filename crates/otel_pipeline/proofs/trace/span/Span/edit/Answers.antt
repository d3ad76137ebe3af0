use Rattle.otel_pipeline.specs.SpanEdits.{plain_edit}
use Rattle.otel_pipeline.proofs.SpanLaws.{edited_by_result, keeps_history}
use Rattle.otel_pipeline.proofs.trace.span.Span.edit.Goals as goal

pub returns-clause-edits : goal.returns-clause-edits
returns-clause-edits c = edited_by_result c.apply.result (plain_edit c.args.edit) _ _ c.self.inside.recorded _ c.args.self.now c.self.view_is c.apply.ensures.ok c.apply.ensures.err

pub invariant_of-self : goal.invariant_of-self
invariant_of-self c = keeps_history c.apply.result (plain_edit c.args.edit) _ _ c.self.inside.recorded _ c.self.invariant c.apply.ensures.ok c.apply.ensures.err
