use Rattle.std.proofs.Common.{drop, Result}
use Rattle.std.specs.declared.alloc.AllocError.{AllocError}
use Rattle.opentelemetry.specs.Carrier.{Texts}
use Rattle.otel_propagation.specs.CompositeList.{InjectsEach}
use Rattle.otel_propagation.proofs.propagation.composite_list.inject_each.Given as goal

abbrev pub invariant-loop-propagator : goal.invariant-loop-propagator
invariant-loop-propagator g l =
    (result : Result (Unit {0}) AllocError) (new : Texts)
    → InjectsEach g.P.TextMapPropagator.inject_gives (drop l.propagator-index l.propagators) l.cx (g.I.Injector.texts l.injector) result new
    → InjectsEach g.P.TextMapPropagator.inject_gives l.propagators l.cx (g.I.Injector.texts l.fn.injector) result new
