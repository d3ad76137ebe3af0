use Rattle.std.proofs.Common.{◌∙◌, sym}
use Rattle.otel_trace_session.proofs.TurnLemmas.{links_absent, links_there}
use Rattle.otel_trace_session.proofs.open_spans.OpenSpans.link.Goals as goal

pub returns-in_default-clause-ok : goal.returns-in_default-clause-ok
returns-in_default-clause-ok c = links_absent c.args.self.now c.args.span.now c.args.target.now (sym c.in_default.is ∙ c.in_ok-link.ensures)

pub returns-clause-ok : goal.returns-clause-ok
returns-clause-ok c = links_there c.edit.result c.args.self.now c.edit.new.self c.args.span.now c.args.target.now c.in-Some.link (sym c.in-Some.is ∙ c.in_ok-link.ensures) c.edit.ensures.ok
