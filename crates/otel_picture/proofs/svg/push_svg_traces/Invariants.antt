-- The traces so far, and those that are left.
use Rattle.std.proofs.Common.{◌≡◌, ◌++◌, length, map, string_bytes}
use Rattle.otel_picture.specs.SvgTexts.{svg_traces}
use Rattle.otel_picture.specs.Traces.{AllHaveSpans, plain_trace}
use Rattle.otel_picture.proofs.svg.push_svg_traces.Given as goal

abbrev pub invariant-loop-trace : goal.invariant-loop-trace
invariant-loop-trace l = record {
  text : string_bytes l.out ++ svg_traces l.spans l.line (map plain_trace l.left)
      ≡ string_bytes l.fn.out ++ svg_traces l.spans 0 (map plain_trace l.fn.traces);
  there : AllHaveSpans l.spans l.left;
}

abbrev pub decreases-loop-trace : goal.decreases-loop-trace
decreases-loop-trace l = length l.left
