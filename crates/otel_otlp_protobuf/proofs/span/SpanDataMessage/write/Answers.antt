-- One member after another.
use Rattle.std.proofs.Common.{◌∙◌, ap}
use Rattle.std.specs.Int.{to_be_bytes, w64, w128}
use Rattle.opentelemetry.specs.Tracestate.{tracestate_text}
use Rattle.otel_export.specs.contracts.trace.span_data.SpanData.{the_view}
use Rattle.otel_otlp.specs.OtlpSpan.{flags_of, kind_number}
use Rattle.otel_otlp_protobuf.proofs.SpanSteps.{span_taken}
use Rattle.otel_otlp_protobuf.proofs.Steps.{many_taken}
use Rattle.otel_otlp_protobuf.specs.NamedSpan.{event_members, link_members, status_members}
use Rattle.otel_otlp_protobuf.specs.NamedValues.{attribute_members, many}
use Rattle.otel_otlp_protobuf.specs.Said.{message_fields, parent_id, said_fields}
use Rattle.otel_protobuf.proofs.Taking.{as_fields}
use Rattle.otel_protobuf.specs.Wire.{bytes, fixed32, fixed64, nested, one, unless_empty, unless_zero, varint}
use Rattle.otel_otlp_protobuf.proofs.span.SpanDataMessage.write.Goals as goal

pub returns : goal.returns
returns c =
    let seen = ap the_view c.self-inside.view_is ∙ c.self.view_is in
    let trace =
    c.to_bytes-2.ensures ∙ ap (to_be_bytes w128) (c.trace_id.ensures ∙ ap (λ span. span.span_context.trace_id) seen) in
    let id =
    c.to_bytes.ensures ∙ ap (to_be_bytes w64) (c.span_id.ensures ∙ ap (λ span. span.span_context.span_id) seen) in
    span_taken c.args.self.now (as_fields (ap (λ bs. one 1 (bytes bs)) trace) c.bytes_field-2.ensures)
    (as_fields (ap (λ bs. one 2 (bytes bs)) id) c.bytes_field.ensures)
    (as_fields (ap (λ state. unless_empty 3 (tracestate_text state))
    (c.trace_state.ensures ∙ ap (λ span. span.span_context.trace_state) seen)) c.trace_state-2.ensures)
    (as_fields (ap (λ span. said_fields 4 (parent_id span.parent_span_id)) seen) c.parent.ensures)
    (as_fields (ap (unless_empty 5) (c.as_bytes.ensures.value ∙ ap (λ span. span.name) seen)) c.bytes.ensures)
    (as_fields (ap (unless_zero 6 varint) (c.kind_number.ensures ∙ ap (λ span. kind_number span.span_kind) seen))
    c.number-4.ensures)
    (as_fields (ap (λ span. unless_zero 7 fixed64 span.start_time) seen) c.fixed64-2.ensures)
    (as_fields (ap (λ span. unless_zero 8 fixed64 span.end_time) seen) c.fixed64.ensures)
    (as_fields (ap (λ span. said_fields 9 (many attribute_members span.attributes)) seen)
    (many_taken 9 attribute_members _ _ c.deref-3.ensures.value c.repeated-3.ensures))
    (as_fields (ap (λ span. unless_zero 10 varint span.dropped_attributes_count) seen) c.number-3.ensures)
    (as_fields (ap (λ span. said_fields 11 (many event_members span.events.events)) seen)
    (many_taken 11 event_members _ _ c.deref-2.ensures.value c.repeated-2.ensures))
    (as_fields (ap (λ span. unless_zero 12 varint span.events.dropped_count) seen) c.number-2.ensures)
    (as_fields (ap (λ span. said_fields 13 (many link_members span.links.links)) seen)
    (many_taken 13 link_members _ _ c.deref.ensures.value c.repeated.ensures))
    (as_fields (ap (λ span. unless_zero 14 varint span.links.dropped_count) seen) c.number.ensures)
    (as_fields (ap (λ span. nested 15 (message_fields (status_members span.status))) seen) c.nested.ensures)
    (as_fields (ap (λ span. unless_zero 16 fixed32
    (flags_of span.span_context.trace_flags span.parent_span_is_remote)) seen) c.flags.ensures)
