-- An ended span as the OpenTelemetry protocol writes it in JSON (OTLP 1.7, "JSON Protobuf Encoding"): a `Span`, whose
-- members stand in this order, also those with their default.
use Rattle.std.specs.Prelude.{ℕ, Bool, List, [], ◌∷◌, ◌++◌, ◌+◌, ◌==◌, codes, if◌then◌else◌}
use Rattle.json.specs.Json.{Json}
use Rattle.opentelemetry.specs.Hex.{hex_text}
use Rattle.opentelemetry.specs.Plain.{PlainEvent, PlainLink, PlainSpanContext, PlainStatus, unset, error, ok}
use Rattle.opentelemetry.specs.Tracestate.{tracestate_text}
use Rattle.opentelemetry.specs.declared.trace.span_kind.SpanKind.{SpanKind}
use Rattle.opentelemetry.specs.declared.trace.span_kind.SpanKind.TheVariants as kinds
use Rattle.otel_export.specs.PlainSpanData.{PlainSpanData, PlainSpanEvents, PlainSpanLinks}
use Rattle.otel_otlp.specs.Fields.{Field, list_json, object_json}
use Rattle.otel_otlp.specs.OtlpValues.{attributes_fields, moment_field, number_field, text_field}

-- ids are in hexadecimal digits, and not in base 64 as other bytes are
abbrev pub context_fields : PlainSpanContext → List Field
context_fields context =
    text_field (codes "traceId") (hex_text 32 context.trace_id)
    ∷ text_field (codes "spanId") (hex_text 16 context.span_id)
    ∷ text_field (codes "traceState") (tracestate_text context.trace_state) ∷ []

-- the id of a parent, empty where there is none
abbrev pub parent_text : ℕ → List ℕ
parent_text parent = if parent == 0 then [] else hex_text 16 parent

-- the flags of the trace; then bit 8, which says that bit 9 is known, and bit 9 where a context came from elsewhere
abbrev pub flags_of : ℕ → Bool → ℕ
flags_of trace_flags is_remote = trace_flags + 256 + (if is_remote then 512 else 0)

abbrev pub kind_number : SpanKind → ℕ
kind_number kinds.Internal = 1
kind_number kinds.Server = 2
kind_number kinds.Client = 3
kind_number kinds.Producer = 4
kind_number kinds.Consumer = 5

abbrev pub event_fields : PlainEvent → List Field
event_fields event =
    moment_field (codes "timeUnixNano") event.timestamp ∷ text_field (codes "name") event.name
    ∷ attributes_fields event.attributes event.dropped_attributes_count

abbrev pub event_json : PlainEvent → Json
event_json event = object_json (event_fields event)

abbrev pub events_fields : PlainSpanEvents → List Field
events_fields events =
    (codes "events", list_json event_json events.events)
    ∷ number_field (codes "droppedEventsCount") events.dropped_count ∷ []

-- the flags of a link say where the linked context came from
abbrev pub link_fields : PlainLink → List Field
link_fields link =
    context_fields link.span_context
    ++ (attributes_fields link.attributes link.dropped_attributes_count
    ++ number_field (codes "flags") (flags_of link.span_context.trace_flags link.span_context.is_remote) ∷ [])

abbrev pub link_json : PlainLink → Json
link_json link = object_json (link_fields link)

abbrev pub links_fields : PlainSpanLinks → List Field
links_fields links =
    (codes "links", list_json link_json links.links)
    ∷ number_field (codes "droppedLinksCount") links.dropped_count ∷ []

-- the description of an error, and the number of a status
abbrev pub message_text : PlainStatus → List ℕ
message_text unset = []
message_text ok = []
message_text (error description) = description

abbrev pub code_number : PlainStatus → ℕ
code_number unset = 0
code_number ok = 1
code_number (error description) = 2

abbrev pub status_fields : PlainStatus → List Field
status_fields status =
    text_field (codes "message") (message_text status) ∷ number_field (codes "code") (code_number status) ∷ []

abbrev pub status_json : PlainStatus → Json
status_json status = object_json (status_fields status)

-- its parent, and the flags, which say where the parent's context came from
abbrev pub parent_fields : PlainSpanData → List Field
parent_fields span =
    text_field (codes "parentSpanId") (parent_text span.parent_span_id)
    ∷ number_field (codes "flags") (flags_of span.span_context.trace_flags span.parent_span_is_remote) ∷ []

abbrev pub name_fields : PlainSpanData → List Field
name_fields span =
    text_field (codes "name") span.name ∷ number_field (codes "kind") (kind_number span.span_kind) ∷ []

abbrev pub time_fields : PlainSpanData → List Field
time_fields span =
    moment_field (codes "startTimeUnixNano") span.start_time
    ∷ moment_field (codes "endTimeUnixNano") span.end_time ∷ []

-- which span it is
abbrev pub identity_fields : PlainSpanData → List Field
identity_fields span =
    context_fields span.span_context ++ (parent_fields span ++ (name_fields span ++ time_fields span))

-- what was recorded of it
abbrev pub recording_fields : PlainSpanData → List Field
recording_fields span =
    attributes_fields span.attributes span.dropped_attributes_count ++ (events_fields span.events
    ++ (links_fields span.links ++ (codes "status", status_json span.status) ∷ []))

abbrev pub span_fields : PlainSpanData → List Field
span_fields span = identity_fields span ++ recording_fields span

abbrev pub span_json : PlainSpanData → Json
span_json span = object_json (span_fields span)
