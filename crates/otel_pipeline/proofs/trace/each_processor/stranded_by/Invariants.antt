use Rattle.std.proofs.Common.{◌≡◌, ◌*◌, ◌≤◌, take}
use Rattle.std.specs.List.{sum_by}
use Rattle.std.specs.Prelude.{unwrap_or}
use Rattle.otel_pipeline.proofs.trace.each_processor.stranded_by.Given as goal

abbrev pub invariant-loop-processor : goal.invariant-loop-processor
invariant-loop-processor g l = record {
  counted : l.count ≡ sum_by (λ p. unwrap_or (g.P.CountsLeftSpans.closed_over p) 0) (take l.processor-index l.processors);
  few : l.count ≤ l.processor-index * 18_446_744_073_709_551_615;
}
