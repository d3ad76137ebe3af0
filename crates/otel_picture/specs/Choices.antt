-- Which traces are drawn.
use Rattle.std.specs.Prelude.{◌≡◌, ◌==◌, ◌&&◌, ◌||◌, ◌-◌, ℕ, Bool, true, false, List, Option, Some, None, nat_lt}
use Rattle.std.specs.Prelude.{not, take}
use Rattle.std.specs.List.{filter, list_any}
use Rattle.std.specs.List.Sorted.{IsPermutation, IsSortedBy}
use Rattle.otel_shown.specs.Shown.{PlainShownSpan}
use Rattle.otel_picture.specs.Bars.{first_of, last_of}
use Rattle.otel_picture.specs.Drawn.{PlainTraces}
use Rattle.otel_picture.specs.Orders.{mark_at}
use Rattle.otel_picture.specs.PlainSheets.{is_error, span_of}
use Rattle.otel_picture.specs.Traces.{PlainTrace}
use Rattle.otel_picture.specs.declared.choice.Choice.{Choice}

-- all traces, in their order
abbrev pub every : Choice
every = record { trace_id = None; errors_only = false; slowest = None; attributes = false }

-- whether a span of a trace failed
abbrev pub has_error : List PlainShownSpan → PlainTrace → Bool
has_error spans trace = list_any (λ mark. is_error (span_of spans mark).status) trace.marks

-- whether a trace has the id that is asked for, if one is
abbrev pub has_id : Option ℕ → PlainTrace → Bool
has_id None trace = true
has_id (Some id) trace = trace.trace_id == id

-- whether a trace may be drawn, whatever its length
abbrev pub is_chosen : Choice → List PlainShownSpan → PlainTrace → Bool
is_chosen choice spans trace =
    has_id choice.trace_id trace && (not choice.errors_only || has_error spans trace)

-- how long a trace was, from its first start to its last end
abbrev pub trace_length : PlainTrace → ℕ
trace_length trace = last_of trace.marks - first_of trace.marks

-- where its first span stands
abbrev pub first_place : PlainTrace → ℕ
first_place trace = (mark_at trace.marks 0).place

-- whether a trace stands before another where the longest stands first, and of two of one length that which came first
abbrev pub is_slower : PlainTrace → PlainTrace → Bool
is_slower trace other =
    nat_lt (trace_length other) (trace_length trace)
    || ((trace_length other == trace_length trace) && nat_lt (first_place trace) (first_place other))

-- so many of traces, the longest first
pub record AreSlowest (count : ℕ) (traces drawn : List PlainTrace) : Type 0 where
  pub all : List PlainTrace
  pub same : IsPermutation traces all
  pub sorted : IsSortedBy is_slower all
  pub drawn_are : drawn ≡ take count all

-- the slowest, where a number of them is asked for, or else all
abbrev pub AreLeft : Option ℕ → List PlainTrace → List PlainTrace → Type 0
AreLeft None traces drawn = drawn ≡ traces
AreLeft (Some count) traces drawn = AreSlowest count traces drawn

-- what a choice leaves of traces
pub record IsChosen (choice : Choice) (old new : PlainTraces) : Type 0 where
  pub spans_are : new.spans ≡ old.spans
  pub left : AreLeft choice.slowest (filter (is_chosen choice old.spans) old.traces) new.traces
