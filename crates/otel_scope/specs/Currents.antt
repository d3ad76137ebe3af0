-- Where a scope stands, and what a start, edits and an end make of that.
use Rattle.std.specs.Prelude.{◌≡◌, ◌⊎◌, Bool, true, false, [], Option, Some, None, is_some}
use Rattle.std.specs.Option.{option_map}
use Rattle.opentelemetry.specs.Baggage.{PlainBaggage}
use Rattle.opentelemetry.specs.Plain.{PlainContext, PlainSpanContext, error}
use Rattle.opentelemetry.specs.PlainContexts.{root_cx}
use Rattle.otel_pipeline.specs.SpanHistory.{PlainSpan, Edit, edited, set_status}
use Rattle.otel_pipeline.specs.InSpan.{active_in}
use Rattle.otel_scope.specs.declared.current.Current.{Current}

-- no span is current, and the next one is a root
abbrev pub at_root : Current
at_root = record { span = None; cx = root_cx }

-- a span that was started here is current
abbrev pub inside : Current → PlainSpan → Current
inside outer span = record { span = Some span; cx = active_in outer.cx span }

-- whether edits reach a span that is there
abbrev pub records : Option PlainSpan → Bool
records None = false
records (Some span) = is_some span.recorded

-- whether edits reach the current span
abbrev pub records_here : Current → Bool
records_here here = records here.span

-- the current span after an edit; nothing happens where none is current
abbrev pub edited_here : Edit → Current → Current
edited_here edit here = record here { span = option_map (edited edit) here.span }

-- what is current, with this baggage for the spans inside
abbrev pub with_baggage : PlainBaggage → Current → Current
with_baggage baggage here = record here { cx = record (here.cx) { baggage = baggage } }

-- a span after work in it: where that failed its status is an error, unless it has one that says more, or is ok
abbrev pub settled : Bool → PlainSpan → PlainSpan
settled true span = edited (set_status (error [])) span
settled false span = span

-- who a span is, without its trace state
abbrev pub without_state : PlainSpanContext → PlainSpanContext
without_state context = record context { trace_state = [] }

-- a context of which only the ids of the active span are kept, and whether telemetry is suppressed
abbrev pub bare : PlainContext → PlainContext
bare cx = record {
  span_context = option_map without_state cx.span_context;
  baggage = [];
  telemetry_suppressed = cx.telemetry_suppressed;
}

-- where work is that has no span of its own: its edits are made nowhere, and spans inside are children of the span
-- outside; where there was no memory, of the context only that is kept
abbrev pub IsBeside : Current → Current → Type 0
IsBeside outer here = (here.span ≡ None) × ((here.cx ≡ outer.cx) ⊎ (here.cx ≡ bare outer.cx))
