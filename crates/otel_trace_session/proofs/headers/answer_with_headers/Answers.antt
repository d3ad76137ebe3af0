use Rattle.std.proofs.Common.{◌∙◌}
use Rattle.otel_propagation.specs.Traceparent.{traceparent_field}
use Rattle.otel_trace_session.proofs.HeaderLemmas.{headers_injected, no_text}
use Rattle.otel_trace_session.proofs.headers.answer_with_headers.Goals as goal

pub returns : goal.returns
returns c =
    let said = headers_injected c.args.cx.now _ _ c.in-Some.parent.now c.in-Some-get.state.now c.in_ok-inject_context.ensures.injects
    (no_text c.new-carrier.result traceparent_field c.new-carrier.ensures) c.in-Some.ensures c.in-Some-get.ensures in
    (said.0, c.in_ok-from_str.ensures.ok ∙ said.1, c.in_ok-from_str-2.ensures.ok ∙ said.2)
