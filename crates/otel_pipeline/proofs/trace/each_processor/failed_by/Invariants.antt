use Rattle.std.proofs.Common.{◌≡◌, ◌*◌, ◌≤◌, take}
use Rattle.std.specs.List.{sum_by}
use Rattle.otel_pipeline.proofs.trace.each_processor.failed_by.Given as goal

abbrev pub invariant-loop-processor : goal.invariant-loop-processor
invariant-loop-processor g l = record {
  counted : l.count ≡ sum_by g.P.CountsLeftSpans.failed_over (take l.processor-index l.processors);
  few : l.count ≤ l.processor-index * 18_446_744_073_709_551_615;
}
