use Rattle.std.proofs.Common.{sym, subst}
use Rattle.otel_propagators.specs.Vendors.{InjectsAsVendor}
use Rattle.otel_propagators.proofs.VendorPropagatorTextMapPropagator.inject_context.Goals as goal

pub returns-in-B3 : goal.returns-in-B3
returns-in-B3 g c =
    subst (λ p. InjectsAsVendor p c.args.cx.now (g.I.Injector.texts c.args.injector.now) c.inject_context.result (g.I.Injector.texts c.inject_context.new.injector))
    (sym c.in-B3.is) c.inject_context.ensures

pub returns-in-Jaeger : goal.returns-in-Jaeger
returns-in-Jaeger g c =
    subst (λ p. InjectsAsVendor p c.args.cx.now (g.I.Injector.texts c.args.injector.now) c.inject_context-in-Jaeger.result (g.I.Injector.texts c.inject_context-in-Jaeger.new.injector))
    (sym c.in-Jaeger.is) c.inject_context-in-Jaeger.ensures
