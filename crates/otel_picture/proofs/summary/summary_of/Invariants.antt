-- The lines so far, and those of the traces that are left.
use Rattle.std.proofs.Common.{◌≡◌, ◌++◌, length, map}
use Rattle.otel_picture.specs.Summaries.{summary_lines}
use Rattle.otel_picture.specs.Traces.{AllHaveSpans, plain_trace}
use Rattle.otel_picture.proofs.summary.summary_of.Given as goal

abbrev pub invariant-loop-trace : goal.invariant-loop-trace
invariant-loop-trace l = record {
  text : l.lines.items ++ summary_lines l.spans (map plain_trace l.left)
      ≡ summary_lines l.spans (map plain_trace l.fn.traces);
  there : AllHaveSpans l.spans l.left;
}

abbrev pub decreases-loop-trace : goal.decreases-loop-trace
decreases-loop-trace l = length l.left
