-- One member after another.
use Rattle.std.proofs.Common.{ap, string_bytes}
use Rattle.otel_otlp_protobuf.proofs.Steps.{last, many_taken}
use Rattle.otel_otlp_protobuf.specs.NamedSpan.{event_members}
use Rattle.otel_otlp_protobuf.specs.NamedValues.{attribute_members}
use Rattle.otel_otlp_protobuf.specs.Said.{message_fields}
use Rattle.otel_protobuf.proofs.Taking.{and_fields, as_fields}
use Rattle.otel_protobuf.specs.Wire.{fixed64, unless_empty, unless_zero, varint}
use Rattle.otel_otlp_protobuf.proofs.span.EventMessage.write.Goals as goal

pub returns : goal.returns
returns c =
    let event = c.self.inside in
    as_fields (ap (λ event. message_fields (event_members event)) c.self.view_is)
    (and_fields (unless_zero 1 fixed64 event.timestamp.0) _ c.fixed64.ensures
    (and_fields (unless_empty 2 (string_bytes event.name)) _
    (as_fields (ap (unless_empty 2) c.as_bytes.ensures.value) c.bytes.ensures)
    (and_fields _ _ (many_taken 3 attribute_members _ event.attributes.items c.deref.ensures.value c.repeated.ensures)
    (last (unless_zero 4 varint event.dropped_attributes_count) c.number.ensures))))
