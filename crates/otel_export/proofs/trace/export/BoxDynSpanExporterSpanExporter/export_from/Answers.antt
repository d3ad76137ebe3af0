use Rattle.std.proofs.Common.{[], ◌∷◌, subst, Option, List}
use Rattle.otel_export.specs.PlainSpanData.{PlainSpanData}
use Rattle.otel_export.specs.Telling.{Tells}
use Rattle.opentelemetry.proofs.BoxedCalls.{boxed_call, same_boxed}
use Rattle.otel_export.proofs.trace.export.BoxDynSpanExporterSpanExporter.export_from.Goals as goal

pub returns-clause-told : goal.returns-clause-told
returns-clause-told g c = subst (λ (t : Option (List (List PlainSpanData))). Tells t (c.args.batch.now.items ∷ []) ((g.dyn-1.0.entry c.deref_box_mut-1.result.now.0).1.told c.export_from.new.self)) (same_boxed (λ k. (g.dyn-1.0.entry k).0.Denot) (λ k x. (g.dyn-1.0.entry k).1.told x) c.deref_box_mut-1.ensures.value.1) c.export_from.ensures.0

pub returns-clause-gives : goal.returns-clause-gives
returns-clause-gives g c = boxed_call (λ k. (g.dyn-1.0.entry k).0.Denot) (λ k x y. (g.dyn-1.0.entry k).1.export_gives x c.args.batch.now.items c.export_from.result y) (λ k x. record c.args.self.now { vtable = k; value = x }) c.deref_box_mut-1.ensures.value.1 c.export_from.ensures.1.0
