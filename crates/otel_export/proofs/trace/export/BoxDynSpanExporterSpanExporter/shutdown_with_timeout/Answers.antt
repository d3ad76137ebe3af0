use Rattle.std.proofs.Common.{◌∙◌}
use Rattle.std.specs.Duration.{as_nanos}
use Rattle.opentelemetry.proofs.BoxedCalls.{boxed_call, same_boxed}
use Rattle.otel_export.proofs.trace.export.BoxDynSpanExporterSpanExporter.shutdown_with_timeout.Goals as goal

pub returns-clause-told : goal.returns-clause-told
returns-clause-told g c = c.shutdown_with_timeout.ensures.0 ∙ same_boxed (λ k. (g.dyn-1.0.entry k).0.Denot) (λ k x. (g.dyn-1.0.entry k).1.told x) c.deref_box_mut-1.ensures.value.1

pub returns-clause-gives : goal.returns-clause-gives
returns-clause-gives g c = boxed_call (λ k. (g.dyn-1.0.entry k).0.Denot) (λ k x y. (g.dyn-1.0.entry k).1.shutdown_gives x (as_nanos c.args.timeout) c.shutdown_with_timeout.result y) (λ k x. record c.args.self.now { vtable = k; value = x }) c.deref_box_mut-1.ensures.value.1 c.shutdown_with_timeout.ensures.1
