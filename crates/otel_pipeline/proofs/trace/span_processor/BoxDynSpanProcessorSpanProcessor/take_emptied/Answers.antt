use Rattle.std.proofs.Common.{◌∙◌, ap}
use Rattle.opentelemetry.proofs.BoxedCalls.{same_boxed}
use Rattle.otel_pipeline.proofs.trace.span_processor.BoxDynSpanProcessorSpanProcessor.take_emptied.Goals as goal

pub returns-clause-same : goal.returns-clause-same
returns-clause-same g c = ap (λ x. record c.args.self.now { vtable = c.deref_box_mut-1.result.now.0; value = x }) c.take_emptied.ensures.1 ∙ same_boxed (λ k. (g.dyn-1.0.entry k).0.Denot) (λ k x. record c.args.self.now { vtable = k; value = x }) c.deref_box_mut-1.ensures.value.1
