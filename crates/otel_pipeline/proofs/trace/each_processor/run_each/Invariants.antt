use Rattle.std.proofs.Common.{◌≡◌, take, drop, ◌≤◌}
use Rattle.otel_pipeline.specs.Each.{AsksAll}
use Rattle.otel_pipeline.specs.Provider.{RunsProcessor}
use Rattle.otel_pipeline.proofs.trace.each_processor.run_each.Given as goal

abbrev pub invariant-loop-processor : goal.invariant-loop-processor
invariant-loop-processor g l = record {
  asked : AsksAll (RunsProcessor g.P.SpanProcessor g.P.Timed l.fn.now.0) (take l.processor-index l.fn.processors) (take l.processor-index l.processors) l.failed;
  rest : drop l.processor-index l.processors ≡ drop l.processor-index l.fn.processors;
  few : l.failed ≤ l.processor-index;
}
