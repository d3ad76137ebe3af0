use Rattle.std.proofs.Common.{◌≡◌, take, drop, ◌≤◌}
use Rattle.otel_pipeline.specs.Each.{AsksAll}
use Rattle.otel_pipeline.specs.ProviderBuilder.{TakesResource}
use Rattle.otel_pipeline.proofs.trace.provider_builder.tell_each.Given as goal

abbrev pub invariant-loop-processor : goal.invariant-loop-processor
invariant-loop-processor g l = record {
  told : AsksAll (TakesResource g.P.SpanProcessor l.resource) (take l.processor-index l.fn.processors) (take l.processor-index l.processors) l.refused;
  rest : drop l.processor-index l.processors ≡ drop l.processor-index l.fn.processors;
  few : l.refused ≤ l.processor-index;
}
