-- An ended span by names and numbers (opentelemetry-proto 1.7, `trace.proto`). Members stand in the order of the JSON.
use Rattle.std.specs.Prelude.{List, [], ◌∷◌, codes}
use Rattle.opentelemetry.specs.Plain.{PlainEvent, PlainLink, PlainStatus}
use Rattle.opentelemetry.specs.Tracestate.{tracestate_text}
use Rattle.otel_export.specs.PlainSpanData.{PlainSpanData}
use Rattle.otel_otlp.specs.OtlpSpan.{code_number, flags_of, kind_number, message_text}
use Rattle.otel_otlp_protobuf.specs.NamedValues.{attribute_members, many}
use Rattle.otel_otlp_protobuf.specs.Said.{Member, members_of}
use Rattle.otel_otlp_protobuf.specs.Said.{flags, message, moment, number, parent_id, span_id, text, trace_id}

-- `Span.Event`
abbrev pub event_members : PlainEvent → List Member
event_members event =
    (codes "timeUnixNano", 1, moment event.timestamp)
    ∷ (codes "name", 2, text event.name)
    ∷ (codes "attributes", 3, many attribute_members event.attributes)
    ∷ (codes "droppedAttributesCount", 4, number event.dropped_attributes_count) ∷ []

-- `Span.Link`
abbrev pub link_members : PlainLink → List Member
link_members link =
    (codes "traceId", 1, trace_id link.span_context.trace_id)
    ∷ (codes "spanId", 2, span_id link.span_context.span_id)
    ∷ (codes "traceState", 3, text (tracestate_text link.span_context.trace_state))
    ∷ (codes "attributes", 4, many attribute_members link.attributes)
    ∷ (codes "droppedAttributesCount", 5, number link.dropped_attributes_count)
    ∷ (codes "flags", 6, flags (flags_of link.span_context.trace_flags link.span_context.is_remote)) ∷ []

-- `Status`
abbrev pub status_members : PlainStatus → List Member
status_members status =
    (codes "message", 2, text (message_text status)) ∷ (codes "code", 3, number (code_number status)) ∷ []

-- `Span`
abbrev pub span_members : PlainSpanData → List Member
span_members span =
    (codes "traceId", 1, trace_id span.span_context.trace_id)
    ∷ (codes "spanId", 2, span_id span.span_context.span_id)
    ∷ (codes "traceState", 3, text (tracestate_text span.span_context.trace_state))
    ∷ (codes "parentSpanId", 4, parent_id span.parent_span_id)
    ∷ (codes "flags", 16, flags (flags_of span.span_context.trace_flags span.parent_span_is_remote))
    ∷ (codes "name", 5, text span.name)
    ∷ (codes "kind", 6, number (kind_number span.span_kind))
    ∷ (codes "startTimeUnixNano", 7, moment span.start_time)
    ∷ (codes "endTimeUnixNano", 8, moment span.end_time)
    ∷ (codes "attributes", 9, many attribute_members span.attributes)
    ∷ (codes "droppedAttributesCount", 10, number span.dropped_attributes_count)
    ∷ (codes "events", 11, many event_members span.events.events)
    ∷ (codes "droppedEventsCount", 12, number span.events.dropped_count)
    ∷ (codes "links", 13, many link_members span.links.links)
    ∷ (codes "droppedLinksCount", 14, number span.links.dropped_count)
    ∷ (codes "status", 15, message (members_of (status_members span.status))) ∷ []
