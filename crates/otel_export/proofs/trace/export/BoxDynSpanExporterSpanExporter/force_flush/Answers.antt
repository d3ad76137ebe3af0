use Rattle.std.proofs.Common.{◌∙◌, inr}
use Rattle.otel_export.specs.RestsOr.{RestsOr}
use Rattle.opentelemetry.proofs.BoxedCalls.{boxed_call, same_boxed}
use Rattle.otel_export.proofs.trace.export.BoxDynSpanExporterSpanExporter.force_flush.Goals as goal

pub returns-clause-told : goal.returns-clause-told
returns-clause-told g c = c.force_flush.ensures.0 ∙ same_boxed (λ k. (g.dyn-1.0.entry k).0.Denot) (λ k x. (g.dyn-1.0.entry k).1.told x) c.deref_box_mut-1.ensures.value.1

pub returns-clause-gives : goal.returns-clause-gives
returns-clause-gives g c = inr (boxed_call (λ k. (g.dyn-1.0.entry k).0.Denot) (λ k x y. RestsOr (g.dyn-1.0.entry k).1.flush_gives x c.force_flush.result y) (λ k x. record c.args.self.now { vtable = k; value = x }) c.deref_box_mut-1.ensures.value.1 c.force_flush.ensures.1)
