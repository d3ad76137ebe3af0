-- What is written, and the traces that are left.
use Rattle.std.proofs.Common.{◌≡◌, ◌++◌, length, map}
use Rattle.otel_picture.specs.HtmlRows.{traces_tokens}
use Rattle.otel_picture.specs.Traces.{AllHaveSpans, plain_trace}
use Rattle.otel_picture.proofs.html_data.push_json_traces.Given as goal

abbrev pub invariant-loop-trace : goal.invariant-loop-trace
invariant-loop-trace l = record {
  before : l.out.before ≡ l.fn.out.before;
  written : l.out.tokens ++ traces_tokens l.spans (map plain_trace l.left)
      ≡ l.fn.out.tokens ++ traces_tokens l.spans (map plain_trace l.fn.traces);
  there : AllHaveSpans l.spans l.left;
}

abbrev pub decreases-loop-trace : goal.decreases-loop-trace
decreases-loop-trace l = length l.left
