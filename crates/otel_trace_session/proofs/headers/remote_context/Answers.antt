use Rattle.std.proofs.Common.{string_bytes}
use Rattle.otel_propagation.specs.Traceparent.{tracestate_field}
use Rattle.opentelemetry.proofs.Clauses.{if_ok_map}
use Rattle.otel_trace_session.proofs.HeaderLemmas.{no_text, says_alone}
use Rattle.otel_trace_session.proofs.headers.remote_context.Goals as goal

pub returns : goal.returns
returns c = if_ok_map c.extract_with_context-2.result
    (λ found extracts. says_alone (string_bytes c.args.traceparent) _ _ _ found c.new-2.ensures
    (no_text c.new-carrier.result tracestate_field c.new-carrier.ensures) c.in_ok-set.ensures.ok extracts) c.extract_with_context-2.ensures.gives
