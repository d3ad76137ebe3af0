-- The traces so far, and those that are left.
use Rattle.std.proofs.Common.{true, ◌≡◌, ◌++◌, length, map, string_bytes}
use Rattle.otel_picture.specs.RowTexts.{traces_text}
use Rattle.otel_picture.specs.Traces.{AllHaveSpans, plain_trace}
use Rattle.otel_picture.proofs.write_text.push_traces.Given as goal

abbrev pub invariant-loop-trace : goal.invariant-loop-trace
invariant-loop-trace l = record {
  text : string_bytes l.text ++ traces_text l.layout l.spans l.is_first (map plain_trace l.left)
      ≡ string_bytes l.fn.text ++ traces_text l.layout l.spans true (map plain_trace l.fn.traces);
  there : AllHaveSpans l.spans l.left;
}

abbrev pub decreases-loop-trace : goal.decreases-loop-trace
decreases-loop-trace l = length l.left
