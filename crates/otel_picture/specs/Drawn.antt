-- Spans and those of their traces that are drawn.
use Rattle.std.specs.Prelude.{◌≡◌, List, map}
use Rattle.otel_shown.specs.Shown.{PlainShownSpan}
use Rattle.otel_picture.specs.Traces.{AreTraces, PlainTrace, plain_trace}
use Rattle.otel_picture.specs.declared.traces.Traces.{Traces}

pub record PlainTraces : Type 0 where
  pub spans : List PlainShownSpan
  pub traces : List PlainTrace

abbrev pub plain_traces : Traces → PlainTraces
plain_traces drawn = record { spans = drawn.spans.now; traces = map plain_trace drawn.traces.items }

-- all traces of spans
pub record AreTracesOf (spans : List PlainShownSpan) (drawn : PlainTraces) : Type 0 where
  pub spans_are : drawn.spans ≡ spans
  pub traces_are : AreTraces spans drawn.traces
