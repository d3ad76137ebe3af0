use Rattle.std.proofs.Common.{subst}
use Rattle.opentelemetry.proofs.BoxedCalls.{boxed_call, same_boxed}
use Rattle.otel_pipeline.specs.ProcessorTelling.{ProcessorTelling, TakesSpan}
use Rattle.otel_pipeline.proofs.trace.span_processor.BoxDynSpanProcessorSpanProcessor.on_end_block.Goals as goal

pub returns-clause-told : goal.returns-clause-told
returns-clause-told g c = subst (λ (t : ProcessorTelling). TakesSpan t c.args.span c.on_end_block.result ((g.dyn-1.0.entry c.deref_box_mut-1.result.now.0).1.told c.on_end_block.new.self)) (same_boxed (λ k. (g.dyn-1.0.entry k).0.Denot) (λ k x. (g.dyn-1.0.entry k).1.told x) c.deref_box_mut-1.ensures.value.1) c.on_end_block.ensures.0

pub returns-clause-gives : goal.returns-clause-gives
returns-clause-gives g c = boxed_call (λ k. (g.dyn-1.0.entry k).0.Denot) (λ k x y. (g.dyn-1.0.entry k).1.end_gives x c.args.span c.on_end_block.result y) (λ k x. record c.args.self.now { vtable = k; value = x }) c.deref_box_mut-1.ensures.value.1 c.on_end_block.ensures.1
