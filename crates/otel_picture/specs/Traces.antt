-- Traces as they are drawn.
use Rattle.std.specs.Prelude.{◌≡◌, ℕ, List, All, length}
use Rattle.std.specs.List.{AllZip}
use Rattle.otel_shown.specs.Shown.{PlainShownSpan}
use Rattle.otel_picture.specs.Families.{HaveSpans, is_of, marks_at, places_below, trace_ids}
use Rattle.otel_picture.specs.Placed.{AreRows}
use Rattle.otel_picture.specs.declared.rows.Mark.{Mark}
use Rattle.otel_picture.specs.declared.rows.Row.{Row}
use Rattle.otel_picture.specs.declared.trace.Trace.{Trace}

-- a trace: its id, a mark a span, in order, and a row a span
pub record PlainTrace : Type 0 where
  pub trace_id : ℕ
  pub marks : List Mark
  pub rows : List Row

abbrev pub plain_trace : Trace → PlainTrace
plain_trace trace = record {
  trace_id = trace.trace_id;
  marks = trace.family.marks.items;
  rows = trace.rows.items;
}

-- the spans of all traces are there
abbrev pub AllHaveSpans : List PlainShownSpan → List Trace → Type 0
AllHaveSpans spans traces = All (λ trace. HaveSpans spans trace.family.marks.items) traces

-- the trace of this id, whose spans stand at these places
pub record IsTraceAt (spans : List PlainShownSpan) (trace_id : ℕ) (places : List ℕ) (trace : PlainTrace) : Type 0 where
  pub id : trace.trace_id ≡ trace_id
  pub marks : trace.marks ≡ marks_at spans places
  pub there : HaveSpans spans trace.marks
  pub rows : AreRows trace.marks trace.rows

-- the trace of an id: it has all spans of that
abbrev pub IsTraceOf : List PlainShownSpan → ℕ → PlainTrace → Type 0
IsTraceOf spans trace_id trace = IsTraceAt spans trace_id (places_below (is_of spans trace_id) (length spans)) trace

-- the traces of spans, in the order in which each first comes
abbrev pub AreTraces : List PlainShownSpan → List PlainTrace → Type 0
AreTraces spans traces = AllZip (IsTraceOf spans) (trace_ids spans) traces
