-- The line so far, and what comes of the traces that are left.
use Rattle.std.proofs.Common.{◌≡◌, length, map}
use Rattle.otel_picture.specs.SvgTexts.{last_line}
use Rattle.otel_picture.specs.Traces.{AllHaveSpans, plain_trace}
use Rattle.otel_picture.proofs.svg.last_line.Given as goal

abbrev pub invariant-loop-trace : goal.invariant-loop-trace
invariant-loop-trace l = record {
  line : last_line l.spans l.line (map plain_trace l.left) ≡ last_line l.spans 0 (map plain_trace l.fn.traces);
  there : AllHaveSpans l.spans l.left;
}

abbrev pub decreases-loop-trace : goal.decreases-loop-trace
decreases-loop-trace l = length l.left
