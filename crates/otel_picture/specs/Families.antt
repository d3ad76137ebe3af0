-- Spans by trace, and within a trace who is whose parent.
use Rattle.std.specs.Prelude.{ℕ, zero, suc, Bool, false, List, [], ◌∷◌, ◌++◌, ◌==◌, ◌<◌, Option, None, get_or, length}
use Rattle.std.specs.Prelude.{◌≡◌, All, map, nat_eq, nat_lt, if◌then◌else◌, position, unwrap_or}
use Rattle.std.specs.List.{fold}
use Rattle.opentelemetry.specs.Plain.{unset}
use Rattle.opentelemetry.specs.declared.trace.span_kind.SpanKind.TheVariants as kinds
use Rattle.indexmap.specs.IndexSet.{insert_key}
use Rattle.otel_shown.specs.Shown.{PlainShownSpan}
use Rattle.otel_picture.specs.Orders.{mark_at}
use Rattle.otel_picture.specs.declared.rows.Mark.{Mark}

-- the numbers below a count that pass a test, in order
abbrev pub places_below : (ℕ → Bool) → ℕ → List ℕ
places_below passes zero = []
places_below passes (suc count) = places_below passes count ++ (if passes count then count ∷ [] else [])

-- whether the span at a place is of a trace
abbrev pub is_of : List PlainShownSpan → ℕ → ℕ → Bool
is_of spans trace place = get_or (map (λ span. span.trace_id == trace) spans) place false

-- the traces of spans, in the order in which each first comes
abbrev pub trace_ids : List PlainShownSpan → List ℕ
trace_ids spans = fold (insert_key nat_eq) [] (map (λ span. span.trace_id) spans)

-- stands for a span where a list has none
abbrev pub no_span : PlainShownSpan
no_span = record {
  trace_id = 0;
  span_id = 0;
  parent_span_id = 0;
  name = [];
  service = [];
  resource = [];
  kind = kinds.Internal;
  start_time = 0;
  end_time = 0;
  status = unset;
  attributes = [];
  events = [];
  links = [];
}

abbrev pub span_at : List PlainShownSpan → ℕ → PlainShownSpan
span_at spans place = get_or spans place no_span

-- where a span's bar begins: at its start, or at its end where it has no start
abbrev pub begin_of : PlainShownSpan → ℕ
begin_of span = if span.start_time == 0 then span.end_time else span.start_time

-- what a picture takes of a span at a place beside its texts
abbrev pub mark_of : ℕ → PlainShownSpan → Mark
mark_of place span = record {
  place = place;
  id = span.span_id;
  parent = span.parent_span_id;
  start = begin_of span;
  end = span.end_time;
}

abbrev pub marks_at : List PlainShownSpan → List ℕ → List Mark
marks_at spans places = map (λ place. mark_of place (span_at spans place)) places

-- the span of each mark is there
abbrev pub HaveSpans : List PlainShownSpan → List Mark → Type 0
HaveSpans spans marks = All (λ mark. mark.place < length spans) marks

-- the marks of a trace's spans, in order
abbrev pub marks_in : List PlainShownSpan → ℕ → List Mark
marks_in spans trace = marks_at spans (places_below (is_of spans trace) (length spans))

-- the first span of an id
abbrev pub first_with : List Mark → ℕ → Option ℕ
first_with marks id = position (λ mark. mark.id == id) marks

-- the parent of a span: the first span of the id, if the span names one and one is there
abbrev pub parent_in : List Mark → Mark → Option ℕ
parent_in marks mark = if mark.parent == 0 then None else first_with marks mark.parent

-- the parent of each span
abbrev pub parents_in : List Mark → List (Option ℕ)
parents_in marks = map (parent_in marks) marks

-- whether a span has the id of one before it
abbrev pub comes_again : List Mark → ℕ → Bool
comes_again marks span = nat_lt (unwrap_or (first_with marks (mark_at marks span).id) span) span

pub record AreRepeats (marks : List Mark) (repeats : List Bool) : Type 0 where
  pub alike : length repeats ≡ length marks
  pub each : (span : ℕ) → span < length marks → get_or repeats span false ≡ comes_again marks span
