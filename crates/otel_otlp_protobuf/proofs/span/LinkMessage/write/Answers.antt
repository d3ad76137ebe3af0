-- One member after another.
use Rattle.std.proofs.Common.{◌∙◌, ap}
use Rattle.std.specs.Int.{to_be_bytes, w64, w128}
use Rattle.opentelemetry.specs.Tracestate.{tracestate_text}
use Rattle.otel_otlp.specs.OtlpSpan.{flags_of}
use Rattle.otel_otlp_protobuf.proofs.SpanSteps.{link_taken}
use Rattle.otel_otlp_protobuf.proofs.Steps.{many_taken}
use Rattle.otel_otlp_protobuf.specs.NamedSpan.{link_members}
use Rattle.otel_otlp_protobuf.specs.NamedValues.{attribute_members}
use Rattle.otel_otlp_protobuf.specs.Said.{message_fields}
use Rattle.otel_protobuf.proofs.Taking.{as_fields}
use Rattle.otel_protobuf.specs.Wire.{bytes, fixed32, one, unless_empty, unless_zero}
use Rattle.otel_otlp_protobuf.proofs.span.LinkMessage.write.Goals as goal

pub returns : goal.returns
returns c =
    let link = c.self.inside in
    let context = link.span_context in
    let trace = c.to_bytes-2.ensures ∙ ap (to_be_bytes w128) c.trace_id.ensures in
    let span = c.to_bytes.ensures ∙ ap (to_be_bytes w64) c.span_id.ensures in
    let flags = ap (λ r. unless_zero 6 fixed32 (flags_of context.trace_flags r)) c.is_remote.ensures in
    as_fields (ap (λ link. message_fields (link_members link)) c.self.view_is)
    (link_taken _ (as_fields (ap (λ bs. one 1 (bytes bs)) trace) c.bytes_field-2.ensures)
    (as_fields (ap (λ bs. one 2 (bytes bs)) span) c.bytes_field.ensures)
    (as_fields (ap (λ state. unless_empty 3 (tracestate_text state)) c.trace_state.ensures) c.trace_state-2.ensures)
    (many_taken 4 attribute_members _ link.attributes.items c.deref.ensures.value c.repeated.ensures)
    c.number.ensures (as_fields flags c.flags.ensures))
