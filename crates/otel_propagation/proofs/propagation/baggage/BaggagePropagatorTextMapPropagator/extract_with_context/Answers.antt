use Rattle.otel_propagation.specs.BaggageHeader.{entries_of}
use Rattle.otel_propagation.proofs.propagation.baggage.BaggagePropagatorTextMapPropagator.extract_with_context.Goals as goal

pub returns-clause-gives : goal.returns-clause-gives
unfolding entries_of
returns-clause-gives g c = c.extracted.ensures.gives
