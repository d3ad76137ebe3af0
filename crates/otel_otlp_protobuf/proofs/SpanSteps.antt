-- The members of links and of spans in turn, of which the last is taken first.
use Rattle.std.proofs.Common.{[], ◌++◌, drop}
use Rattle.std.specs.Int.{to_be_bytes, w64, w128}
use Rattle.opentelemetry.specs.Plain.{PlainLink}
use Rattle.opentelemetry.specs.Tracestate.{tracestate_text}
use Rattle.otel_export.specs.PlainSpanData.{PlainSpanData}
use Rattle.otel_otlp.specs.OtlpSpan.{flags_of, kind_number}
use Rattle.otel_otlp_protobuf.proofs.Steps.{last}
use Rattle.otel_otlp_protobuf.specs.NamedSpan.{event_members, link_members, span_members, status_members}
use Rattle.otel_otlp_protobuf.specs.NamedValues.{attribute_members, many}
use Rattle.otel_otlp_protobuf.specs.Said.{message_fields, parent_id, said_fields}
use Rattle.otel_protobuf.proofs.Taking.{and_fields}
use Rattle.otel_protobuf.specs.Progress.{Progress, TakesFields}
use Rattle.otel_protobuf.specs.Wire.{bytes, fixed32, fixed64, nested, one, unless_empty, unless_zero, varint}

pub link_taken : {start counted kept stated named identified new : Progress} (link : PlainLink)
    → TakesFields identified new (one 1 (bytes (to_be_bytes w128 link.span_context.trace_id)))
    → TakesFields named identified (one 2 (bytes (to_be_bytes w64 link.span_context.span_id)))
    → TakesFields stated named (unless_empty 3 (tracestate_text link.span_context.trace_state))
    → TakesFields kept stated (said_fields 4 (many attribute_members link.attributes))
    → TakesFields counted kept (unless_zero 5 varint link.dropped_attributes_count)
    → TakesFields start counted
    (unless_zero 6 fixed32 (flags_of link.span_context.trace_flags link.span_context.is_remote))
    → TakesFields start new (message_fields (link_members link))
link_taken link trace span state kept dropped flags =
    let context = link.span_context in
    and_fields (one 1 (bytes (to_be_bytes w128 context.trace_id))) (message_fields (drop 1 (link_members link))) trace
    (and_fields (one 2 (bytes (to_be_bytes w64 context.span_id))) (message_fields (drop 2 (link_members link))) span
    (and_fields (unless_empty 3 (tracestate_text context.trace_state)) (message_fields (drop 3 (link_members link))) state
    (and_fields (said_fields 4 (many attribute_members link.attributes)) (message_fields (drop 4 (link_members link))) kept
    (and_fields (unless_zero 5 varint link.dropped_attributes_count) (message_fields (drop 5 (link_members link))) dropped
    (last (unless_zero 6 fixed32 (flags_of context.trace_flags context.is_remote)) flags)))))

pub span_taken : {start s15 s14 s13 s12 s11 s10 s9 s8 s7 s6 s5 s4 s3 s2 s1 new : Progress} (span : PlainSpanData)
    → TakesFields s1 new (one 1 (bytes (to_be_bytes w128 span.span_context.trace_id)))
    → TakesFields s2 s1 (one 2 (bytes (to_be_bytes w64 span.span_context.span_id)))
    → TakesFields s3 s2 (unless_empty 3 (tracestate_text span.span_context.trace_state))
    → TakesFields s4 s3 (said_fields 4 (parent_id span.parent_span_id))
    → TakesFields s5 s4 (unless_empty 5 span.name)
    → TakesFields s6 s5 (unless_zero 6 varint (kind_number span.span_kind))
    → TakesFields s7 s6 (unless_zero 7 fixed64 span.start_time)
    → TakesFields s8 s7 (unless_zero 8 fixed64 span.end_time)
    → TakesFields s9 s8 (said_fields 9 (many attribute_members span.attributes))
    → TakesFields s10 s9 (unless_zero 10 varint span.dropped_attributes_count)
    → TakesFields s11 s10 (said_fields 11 (many event_members span.events.events))
    → TakesFields s12 s11 (unless_zero 12 varint span.events.dropped_count)
    → TakesFields s13 s12 (said_fields 13 (many link_members span.links.links))
    → TakesFields s14 s13 (unless_zero 14 varint span.links.dropped_count)
    → TakesFields s15 s14 (nested 15 (message_fields (status_members span.status)))
    → TakesFields start s15
    (unless_zero 16 fixed32 (flags_of span.span_context.trace_flags span.parent_span_is_remote))
    → TakesFields start new (message_fields (span_members span))
span_taken span t1 t2 t3 t4 t5 t6 t7 t8 t9 t10 t11 t12 t13 t14 t15 t16 =
    let context = span.span_context in
    let flagged = last (unless_zero 16 fixed32 (flags_of context.trace_flags span.parent_span_is_remote)) t16 in
    let stated = and_fields (nested 15 (message_fields (status_members span.status)))
    (unless_zero 16 fixed32 (flags_of context.trace_flags span.parent_span_is_remote) ++ []) t15 flagged in
    let linked =
    and_fields (said_fields 13 (many link_members span.links.links)) _ t13
    (and_fields (unless_zero 14 varint span.links.dropped_count) _ t14 stated) in
    let happened =
    and_fields (said_fields 11 (many event_members span.events.events)) _ t11
    (and_fields (unless_zero 12 varint span.events.dropped_count) _ t12 linked) in
    let kept =
    and_fields (said_fields 9 (many attribute_members span.attributes)) _ t9
    (and_fields (unless_zero 10 varint span.dropped_attributes_count) _ t10 happened) in
    let lived =
    and_fields (unless_zero 7 fixed64 span.start_time) _ t7
    (and_fields (unless_zero 8 fixed64 span.end_time) _ t8 kept) in
    let named =
    and_fields (unless_empty 5 span.name) _ t5
    (and_fields (unless_zero 6 varint (kind_number span.span_kind)) _ t6 lived) in
    let placed =
    and_fields (unless_empty 3 (tracestate_text context.trace_state)) _ t3
    (and_fields (said_fields 4 (parent_id span.parent_span_id)) _ t4 named) in
    and_fields (one 1 (bytes (to_be_bytes w128 context.trace_id))) (message_fields (drop 1 (span_members span))) t1
    (and_fields (one 2 (bytes (to_be_bytes w64 context.span_id))) (message_fields (drop 2 (span_members span))) t2 placed)
