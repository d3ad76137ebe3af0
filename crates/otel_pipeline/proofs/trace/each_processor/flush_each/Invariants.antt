use Rattle.std.proofs.Common.{◌≡◌, take, drop}
use Rattle.otel_pipeline.specs.Each.{AsksFirst}
use Rattle.otel_pipeline.specs.Provider.{FlushesProcessor}
use Rattle.otel_pipeline.proofs.trace.each_processor.flush_each.Given as goal

abbrev pub invariant-loop-processor : goal.invariant-loop-processor
invariant-loop-processor g l = record {
  asked : AsksFirst (FlushesProcessor g.P.SpanProcessor) (take l.processor-index l.fn.processors) (take l.processor-index l.processors) l.answer;
  rest : drop l.processor-index l.processors ≡ drop l.processor-index l.fn.processors;
}
