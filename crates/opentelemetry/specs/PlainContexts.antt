-- What contracts see of a context's parts.
use Rattle.std.specs.Prelude.{◌≡◌, Bool, true, false, [], Option, Some, None, unwrap_or}
use Rattle.std.specs.Arc.{arc_value}
use Rattle.std.specs.declared.sync.Arc.{Arc}
use Rattle.opentelemetry.specs.Baggage.{PlainBaggage}
use Rattle.opentelemetry.specs.Plain.{PlainContext, PlainSpanContext}

-- the context of no span
abbrev pub empty_span_context : PlainSpanContext
empty_span_context = record { trace_id = 0; span_id = 0; trace_flags = 0; is_remote = false; trace_state = [] }

-- the span context where a span is active
abbrev pub active_span_context : Bool → PlainSpanContext → Option PlainSpanContext
active_span_context true span_context = Some span_context
active_span_context false span_context = None

-- the active span's context, the empty one where no span is active
abbrev pub current_span_context : PlainContext → PlainSpanContext
current_span_context cx = unwrap_or cx.span_context empty_span_context

-- the baggage that is shared; the empty one where nothing is
abbrev pub shared_baggage : {D : Type 0} → Option (Arc PlainBaggage D) → PlainBaggage
shared_baggage None = []
shared_baggage (Some shared) = arc_value shared

-- the context in which no span is active, nothing is handed on and nothing is suppressed
abbrev pub root_cx : PlainContext
root_cx = record { span_context = None; baggage = []; telemetry_suppressed = false }

-- neither a trace state nor a baggage, which copies share
abbrev pub SharesNothing : PlainContext → Type 0
SharesNothing cx = ((current_span_context cx).trace_state ≡ []) × (cx.baggage ≡ [])
