use Rattle.std.proofs.Common.{◌≡◌, ◌+◌, ◌-◌, take, drop, ◌≤◌, length, replicate, vec_len}
use Rattle.otel_export.specs.PlainSpanData.{PlainSpanData}
use Rattle.otel_pipeline.specs.Each.{AsksAll}
use Rattle.otel_pipeline.specs.Ending.{TakesAndTells}
use Rattle.otel_pipeline.proofs.trace.each_processor.end_copies.Given as goal

abbrev pub invariant-loop-processor : goal.invariant-loop-processor
invariant-loop-processor g l = record {
  asked : (d : PlainSpanData) → l.fn.copies.items ≡ replicate (length l.fn.processors) d
      → AsksAll (TakesAndTells g.P.SpanProcessor d) (take l.processor-index l.fn.processors) (take l.processor-index l.processors) l.refused
      × (l.copies.items ≡ replicate (length l.fn.processors - l.processor-index) d);
  rest : drop l.processor-index l.processors ≡ drop l.processor-index l.fn.processors;
  room : vec_len l.copies + l.processor-index ≡ length l.fn.processors;
  few : l.refused ≤ l.processor-index;
}
