use Rattle.std.proofs.Common.{sym, subst}
use Rattle.otel_propagation.specs.PropagatorKinds.{InjectsByKind}
use Rattle.otel_propagation.proofs.propagation.propagator_kinds.PropagatorOfTextMapPropagator.inject_context.Goals as goal

pub returns-in-TraceContext : goal.returns-in-TraceContext
returns-in-TraceContext g c =
    subst (λ p. InjectsByKind g.C.TextMapPropagator.inject_gives p c.args.cx.now (g.I.Injector.texts c.args.injector.now) c.inject_context.result (g.I.Injector.texts c.inject_context.new.injector))
    (sym c.in-TraceContext.is) c.inject_context.ensures.injects

pub returns-in-Baggage : goal.returns-in-Baggage
returns-in-Baggage g c =
    subst (λ p. InjectsByKind g.C.TextMapPropagator.inject_gives p c.args.cx.now (g.I.Injector.texts c.args.injector.now) c.inject_context-in-Baggage.result (g.I.Injector.texts c.inject_context-in-Baggage.new.injector))
    (sym c.in-Baggage.is) c.inject_context-in-Baggage.ensures.injects

pub returns-in-StrictBaggage : goal.returns-in-StrictBaggage
returns-in-StrictBaggage g c =
    subst (λ p. InjectsByKind g.C.TextMapPropagator.inject_gives p c.args.cx.now (g.I.Injector.texts c.args.injector.now) c.inject_context-in-StrictBaggage.result (g.I.Injector.texts c.inject_context-in-StrictBaggage.new.injector))
    (sym c.in-StrictBaggage.is) c.inject_context-in-StrictBaggage.ensures
