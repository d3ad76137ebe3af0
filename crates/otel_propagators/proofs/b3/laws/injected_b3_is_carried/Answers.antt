use Rattle.otel_propagators.proofs.B3RoundTrip.{injected_carries}
use Rattle.otel_propagators.proofs.b3.laws.injected_b3_is_carried.Goals as goal

pub returns : goal.returns
returns c = injected_carries
