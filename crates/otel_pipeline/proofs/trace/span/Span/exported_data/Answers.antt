use Rattle.std.proofs.Common.{rules}
use Rattle.otel_pipeline.proofs.SpanLaws.{recorded_is, status_is}
use Rattle.otel_pipeline.proofs.trace.span.Span.exported_data.Goals as goal

pub returns-in_ok-clone-in-Some-clause-whole : goal.returns-in_ok-clone-in-Some-clause-whole
returns-in_ok-clone-in-Some-clause-whole c = λ start edits h. recorded_is c.args.self.now start edits _ (search rules) h

pub returns-in_ok-clone-in-Some-clause-any_order : goal.returns-in_ok-clone-in-Some-clause-any_order
returns-in_ok-clone-in-Some-clause-any_order c = λ start edits statuses h p. status_is c.args.self.now start edits statuses c.in_ok-clone-in-Some.field-0 (search rules) h p

pub returns-in-None-clause-whole : goal.returns-in-None-clause-whole
returns-in-None-clause-whole c = λ start edits h. recorded_is c.args.self.now start edits _ (search rules) h
