use Rattle.otel_trace_session.proofs.ended_span.EndedSpan.of.Given as goal

abbrev pub ghost-of : goal.ghost-of
ghost-of a = a._one.now.limits
