-- The call of the object in the box.
use Rattle.opentelemetry.proofs.BoxedCalls.{boxed_call}
use Rattle.otel_sampling.proofs.trace.id_generator.BoxDynIdGeneratorIdGenerator.new_span_id.Goals as goal

pub returns : goal.returns
returns g c = boxed_call (λ k. (g.dyn-1.0.entry k).0.Denot)
    (λ k x y. (g.dyn-1.0.entry k).1.span_id_gives x c.new_span_id.result y)
    (λ k x. record c.args.self.now { vtable = k; value = x })
    c.deref_box_mut-1.ensures.value.1
    c.new_span_id.ensures
