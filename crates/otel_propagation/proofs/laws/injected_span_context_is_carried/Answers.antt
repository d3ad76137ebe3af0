use Rattle.otel_propagation.proofs.TraceparentLemmas.{injected_carries}
use Rattle.otel_propagation.proofs.laws.injected_span_context_is_carried.Goals as goal

pub returns : goal.returns
returns c = injected_carries
