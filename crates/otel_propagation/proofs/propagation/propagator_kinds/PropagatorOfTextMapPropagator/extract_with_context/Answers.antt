use Rattle.std.proofs.Common.{IfOk, sym, subst}
use Rattle.otel_propagation.specs.PropagatorKinds.{ExtractsByKind, InfallibleByKind}
use Rattle.otel_propagation.proofs.propagation.propagator_kinds.PropagatorOfTextMapPropagator.extract_with_context.Goals as goal

pub returns-in-TraceContext-clause-gives : goal.returns-in-TraceContext-clause-gives
returns-in-TraceContext-clause-gives g c =
    subst (λ p. IfOk c.extract_with_context.result (λ found. ExtractsByKind g.C.TextMapPropagator.extract_gives p c.args.cx.now (g.X.Extractor.reads c.args.extractor.now) found))
    (sym c.in-TraceContext.is) c.extract_with_context.ensures.gives

pub returns-in-TraceContext-clause-infallible : goal.returns-in-TraceContext-clause-infallible
returns-in-TraceContext-clause-infallible g c is =
    c.extract_with_context.ensures.infallible
    (subst (λ p. InfallibleByKind g.C.TextMapPropagator.extract_is_infallible p c.args.cx.now (g.X.Extractor.reads c.args.extractor.now)) c.in-TraceContext.is is)

pub returns-in-Baggage-clause-infallible : goal.returns-in-Baggage-clause-infallible
returns-in-Baggage-clause-infallible g c is =
    c.extract_with_context-in-Baggage.ensures.infallible
    (subst (λ p. InfallibleByKind g.C.TextMapPropagator.extract_is_infallible p c.args.cx.now (g.X.Extractor.reads c.args.extractor.now)) c.in-Baggage.is is)

pub returns-in-StrictBaggage-clause-infallible : goal.returns-in-StrictBaggage-clause-infallible
returns-in-StrictBaggage-clause-infallible g c is =
    c.extract_with_context-in-StrictBaggage.ensures.infallible
    (subst (λ p. InfallibleByKind g.C.TextMapPropagator.extract_is_infallible p c.args.cx.now (g.X.Extractor.reads c.args.extractor.now)) c.in-StrictBaggage.is is)
