use Rattle.std.proofs.Common.{◌∙◌, sym}
use Rattle.otel_trace_session.proofs.TurnLemmas.{inject_absent, inject_there}
use Rattle.otel_trace_session.proofs.open_spans.OpenSpans.inject.Goals as goal

pub returns-in_default : goal.returns-in_default
returns-in_default c = inject_absent c.args.self.now c.args.span.now (sym c.in_default.is ∙ c.in_ok-cx.ensures)

pub returns : goal.returns
returns c = inject_there c.answer_with_headers.result c.args.self.now c.args.span.now c.in-Some.cx (sym c.in-Some.is ∙ c.in_ok-cx.ensures) c.answer_with_headers.ensures
