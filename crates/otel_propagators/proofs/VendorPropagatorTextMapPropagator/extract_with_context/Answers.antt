use Rattle.std.proofs.Common.{IfOk, sym, subst}
use Rattle.otel_propagators.specs.Vendors.{ExtractsAsVendor, VendorIsInfallible}
use Rattle.otel_propagators.proofs.VendorPropagatorTextMapPropagator.extract_with_context.Goals as goal

pub returns-in-B3-clause-gives : goal.returns-in-B3-clause-gives
returns-in-B3-clause-gives g c =
    subst (λ p. IfOk c.extract_with_context.result (λ found. ExtractsAsVendor p c.args.cx.now (g.X.Extractor.reads c.args.extractor.now) found))
    (sym c.in-B3.is) c.extract_with_context.ensures.gives

pub returns-in-B3-clause-infallible : goal.returns-in-B3-clause-infallible
returns-in-B3-clause-infallible g c is =
    c.extract_with_context.ensures.infallible
    (subst (λ p. VendorIsInfallible p c.args.cx.now (g.X.Extractor.reads c.args.extractor.now)) c.in-B3.is is)

pub returns-in-Jaeger-clause-gives : goal.returns-in-Jaeger-clause-gives
returns-in-Jaeger-clause-gives g c =
    subst (λ p. IfOk c.extract_with_context-in-Jaeger.result (λ found. ExtractsAsVendor p c.args.cx.now (g.X.Extractor.reads c.args.extractor.now) found))
    (sym c.in-Jaeger.is) c.extract_with_context-in-Jaeger.ensures.gives

pub returns-in-Jaeger-clause-infallible : goal.returns-in-Jaeger-clause-infallible
returns-in-Jaeger-clause-infallible g c is =
    c.extract_with_context-in-Jaeger.ensures.infallible
    (subst (λ p. VendorIsInfallible p c.args.cx.now (g.X.Extractor.reads c.args.extractor.now)) c.in-Jaeger.is is)
