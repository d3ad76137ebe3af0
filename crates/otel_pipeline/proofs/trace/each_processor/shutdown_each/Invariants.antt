use Rattle.std.proofs.Common.{◌≡◌, take, drop, ◌≤◌}
use Rattle.std.specs.Duration.{as_nanos}
use Rattle.otel_pipeline.specs.Each.{AsksAll}
use Rattle.otel_pipeline.specs.Provider.{ShutsProcessor}
use Rattle.otel_pipeline.proofs.trace.each_processor.shutdown_each.Given as goal

abbrev pub invariant-loop-processor : goal.invariant-loop-processor
invariant-loop-processor g l = record {
  asked : AsksAll (ShutsProcessor g.P.SpanProcessor (as_nanos l.fn.timeout)) (take l.processor-index l.fn.processors) (take l.processor-index l.processors) l.failed;
  rest : drop l.processor-index l.processors ≡ drop l.processor-index l.fn.processors;
  few : l.failed ≤ l.processor-index;
}
