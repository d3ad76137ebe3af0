use Rattle.std.proofs.Common.{drop}
use Rattle.opentelemetry.specs.Plain.{PlainContext}
use Rattle.otel_propagation.specs.CompositeList.{ExtractsEach, EachIsInfallible}
use Rattle.otel_propagation.proofs.propagation.composite_list.extract_each.Given as goal

abbrev pub invariant-loop-propagator : goal.invariant-loop-propagator
invariant-loop-propagator g l = record {
  gives : (found : PlainContext)
      → ExtractsEach g.P.TextMapPropagator.extract_gives (drop l.propagator-index l.propagators) l.cx (g.X.Extractor.reads l.extractor) found
      → ExtractsEach g.P.TextMapPropagator.extract_gives l.propagators l.fn.cx (g.X.Extractor.reads l.extractor) found;
  infallible : EachIsInfallible g.P.TextMapPropagator.extract_gives g.P.TextMapPropagator.extract_is_infallible l.propagators l.fn.cx (g.X.Extractor.reads l.extractor)
      → EachIsInfallible g.P.TextMapPropagator.extract_gives g.P.TextMapPropagator.extract_is_infallible (drop l.propagator-index l.propagators) l.cx (g.X.Extractor.reads l.extractor);
}
