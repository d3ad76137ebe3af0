use Rattle.otel_propagation.proofs.BaggageRoundTrip.{injected_baggage_carries}
use Rattle.otel_propagation.proofs.laws.injected_baggage_is_carried.Goals as goal

pub returns : goal.returns
returns c = injected_baggage_carries
