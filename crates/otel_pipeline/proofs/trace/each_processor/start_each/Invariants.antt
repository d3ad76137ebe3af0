use Rattle.std.proofs.Common.{◌≡◌, map, take, drop}
use Rattle.otel_pipeline.specs.Starting.{PassesThrough}
use Rattle.otel_pipeline.specs.SpanHistory.{IsEdited}
use Rattle.otel_pipeline.proofs.trace.each_processor.start_each.Given as goal

abbrev pub invariant-loop-processor : goal.invariant-loop-processor
invariant-loop-processor g l = record {
  edits : IsEdited l.fn.span l.span;
  told : map g.P.SpanProcessor.told l.processors ≡ map g.P.SpanProcessor.told l.fn.processors;
  passed : PassesThrough g.P.SpanProcessor l.cx l.fn.span (take l.processor-index l.fn.processors) (take l.processor-index l.processors) l.span;
  rest : drop l.processor-index l.processors ≡ drop l.processor-index l.fn.processors;
}
