use Rattle.std.proofs.Common.{◌≡◌, [], drop}
use Rattle.otel_propagation.specs.Composite.{names_of}
use Rattle.otel_propagation.specs.CompositeList.{fields_onto}
use Rattle.otel_propagation.proofs.propagation.composite_list.fields_of.Given as goal

abbrev pub invariant-loop-propagator : goal.invariant-loop-propagator
invariant-loop-propagator g l =
    fields_onto g.P.TextMapPropagator.field_names (names_of l.fields.items) (drop l.propagator-index l.propagators)
    ≡ fields_onto g.P.TextMapPropagator.field_names [] l.propagators
