use Rattle.otel_propagation.specs.StrictBaggage.{strict_entries_of}
use Rattle.otel_propagation.proofs.propagation.strict_baggage.StrictBaggagePropagatorTextMapPropagator.extract_with_context.Goals as goal

pub returns-clause-gives : goal.returns-clause-gives
unfolding strict_entries_of
returns-clause-gives g c = c.extracted.ensures.gives
