use Rattle.otel_pipeline.proofs.SettingMany.{edited_by_set, keeps_history_by_set, set_on_ok}
use Rattle.otel_pipeline.proofs.trace.span.Span.set_attributes.Goals as goal

pub returns-clause-ok : goal.returns-clause-ok
returns-clause-ok c = set_on_ok c.set_attributes.result c.args.attributes.items _ _ c.self.inside.recorded _ c.args.self.now c.self.invariant c.self.view_is c.set_attributes.ensures.ok

pub returns-clause-edits : goal.returns-clause-edits
returns-clause-edits c = edited_by_set c.set_attributes.result c.args.attributes.items _ _ c.self.inside.recorded _ c.args.self.now c.self.invariant c.self.view_is c.set_attributes.ensures.ok c.set_attributes.ensures.err

pub invariant_of-self : goal.invariant_of-self
invariant_of-self c = keeps_history_by_set c.set_attributes.result c.args.attributes.items _ _ c.self.inside.recorded _ c.self.invariant c.set_attributes.ensures.ok c.set_attributes.ensures.err
