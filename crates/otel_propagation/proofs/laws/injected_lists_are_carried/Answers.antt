use Rattle.otel_propagation.proofs.BothLemmas.{list_carries_both, list_carries_span}
use Rattle.otel_propagation.proofs.laws.injected_lists_are_carried.Goals as goal

pub returns-clause-span : goal.returns-clause-span
returns-clause-span g c writing reading cx receiver found old new =
    list_carries_span g.C.TextMapPropagator.inject_gives g.C.TextMapPropagator.extract_gives writing reading cx receiver found old new

pub returns-clause-both : goal.returns-clause-both
returns-clause-both g c writing reading cx receiver found old new =
    list_carries_both g.C.TextMapPropagator.inject_gives g.C.TextMapPropagator.extract_gives writing reading cx receiver found old new
