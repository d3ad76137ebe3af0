use Rattle.otel_propagators.proofs.JaegerRoundTrip.{injected_carries}
use Rattle.otel_propagators.proofs.jaeger.laws.injected_uber_trace_id_is_carried.Goals as goal

pub returns : goal.returns
returns c = injected_carries
