-- Spans that are written alike, and whose scopes are seen alike, are seen alike.
use Rattle.std.proofs.Common.{◌≡◌, false, Some, ap}
use Rattle.std.proofs.lemmas.Fmt.{decimal_injective}
use Rattle.std.specs.List.{AllByRecursion}
use Rattle.opentelemetry.specs.Plain.{PlainEvent, PlainLink, PlainScope}
use Rattle.otel_export.specs.PlainSpanData.{PlainSpanData}
use Rattle.otel_otlp.specs.Fits.{AttributeFits, EventFits, LinkFits, SpanFits}
use Rattle.otel_otlp.specs.Otlp.{or_empty, scope_json}
use Rattle.otel_otlp.specs.OtlpSpan.{event_json, link_json, span_json}
use Rattle.otel_otlp.specs.Seen.{seen_event, seen_link, seen_scope, seen_span}
use Rattle.otel_otlp.proofs.JsonParts.{lists_alike, part, text_part}
use Rattle.otel_otlp.proofs.NumbersAlike.{counts_same, flags_same, kinds_same, parents_same, span_ids_same}
use Rattle.otel_otlp.proofs.NumbersAlike.{statuses_same, trace_ids_same, trace_states_same}
use Rattle.otel_otlp.proofs.ValuesAlike.{attributes_alike}

events_alike : (a b : PlainEvent) → EventFits a → EventFits b → event_json a ≡ event_json b
    → seen_event a ≡ seen_event b
events_alike a b h k e =
    let name : a.name ≡ b.name = ap (text_part 1) e in
    let timestamp = decimal_injective a.timestamp b.timestamp h.timestamp k.timestamp (ap (text_part 0) e) in
    let attributes = attributes_alike a.attributes b.attributes h.attributes k.attributes (ap (part 2) e) in
    let dropped =
    counts_same a.dropped_attributes_count b.dropped_attributes_count h.dropped_attributes_count
    k.dropped_attributes_count (ap (text_part 3) e) in
    λ i. record {
      name = name i;
      timestamp = timestamp i;
      attributes = attributes i;
      dropped_attributes_count = dropped i;
    }

links_alike : (a b : PlainLink) → LinkFits a → LinkFits b → link_json a ≡ link_json b → seen_link a ≡ seen_link b
links_alike a b h k e =
    let these = a.span_context in
    let those = b.span_context in
    let fits = h.span_context in
    let others = k.span_context in
    let trace_id = trace_ids_same these.trace_id those.trace_id fits.trace_id others.trace_id (ap (text_part 0) e) in
    let span_id = span_ids_same these.span_id those.span_id fits.span_id others.span_id (ap (text_part 1) e) in
    let state =
    trace_states_same these.trace_state those.trace_state fits.trace_state others.trace_state (ap (text_part 2) e) in
    let attributes = attributes_alike a.attributes b.attributes h.attributes k.attributes (ap (part 3) e) in
    let dropped =
    counts_same a.dropped_attributes_count b.dropped_attributes_count h.dropped_attributes_count
    k.dropped_attributes_count (ap (text_part 4) e) in
    let flags =
    flags_same these.trace_flags those.trace_flags these.is_remote those.is_remote fits.trace_flags others.trace_flags
    (ap (text_part 5) e) in
    λ i. record {
      span_context = record {
        trace_id = trace_id i;
        span_id = span_id i;
        trace_flags = flags.0 i;
        is_remote = flags.1 i;
        trace_state = state i;
      };
      attributes = attributes i;
      dropped_attributes_count = dropped i;
    }

pub scopes_alike : (a b : PlainScope) → AllByRecursion AttributeFits a.attributes
    → AllByRecursion AttributeFits b.attributes → scope_json a ≡ scope_json b
    → or_empty a.schema_url ≡ or_empty b.schema_url → seen_scope a ≡ seen_scope b
scopes_alike a b h k e schema =
    let name : a.name ≡ b.name = ap (text_part 0) e in
    let version : or_empty a.version ≡ or_empty b.version = ap (text_part 1) e in
    let attributes = attributes_alike a.attributes b.attributes h k (ap (part 2) e) in
    λ i. record {
      name = name i;
      version = Some (version i);
      schema_url = Some (schema i);
      attributes = attributes i;
    }

pub spans_alike : (a b : PlainSpanData) → SpanFits a → SpanFits b
    → seen_scope a.instrumentation_scope ≡ seen_scope b.instrumentation_scope
    → span_json a ≡ span_json b → seen_span a ≡ seen_span b
spans_alike a b h k scope e =
    let these = a.span_context in
    let those = b.span_context in
    let fits = h.span_context in
    let others = k.span_context in
    let trace_id = trace_ids_same these.trace_id those.trace_id fits.trace_id others.trace_id (ap (text_part 0) e) in
    let span_id = span_ids_same these.span_id those.span_id fits.span_id others.span_id (ap (text_part 1) e) in
    let state =
    trace_states_same these.trace_state those.trace_state fits.trace_state others.trace_state (ap (text_part 2) e) in
    let parent =
    parents_same a.parent_span_id b.parent_span_id h.parent_span_id k.parent_span_id (ap (text_part 3) e) in
    let flags =
    flags_same these.trace_flags those.trace_flags a.parent_span_is_remote b.parent_span_is_remote fits.trace_flags
    others.trace_flags (ap (text_part 4) e) in
    let name : a.name ≡ b.name = ap (text_part 5) e in
    let kind = kinds_same a.span_kind b.span_kind (ap (text_part 6) e) in
    let start = decimal_injective a.start_time b.start_time h.start_time k.start_time (ap (text_part 7) e) in
    let end = decimal_injective a.end_time b.end_time h.end_time k.end_time (ap (text_part 8) e) in
    let attributes = attributes_alike a.attributes b.attributes h.attributes k.attributes (ap (part 9) e) in
    let dropped =
    counts_same a.dropped_attributes_count b.dropped_attributes_count h.dropped_attributes_count
    k.dropped_attributes_count (ap (text_part 10) e) in
    let events =
    lists_alike event_json seen_event EventFits EventFits events_alike a.events.events b.events.events
    h.events k.events
    (ap (part 11) e) in
    let dropped_events =
    counts_same a.events.dropped_count b.events.dropped_count h.dropped_events_count k.dropped_events_count
    (ap (text_part 12) e) in
    let links =
    lists_alike link_json seen_link LinkFits LinkFits links_alike a.links.links b.links.links h.links k.links
    (ap (part 13) e) in
    let dropped_links =
    counts_same a.links.dropped_count b.links.dropped_count h.dropped_links_count k.dropped_links_count
    (ap (text_part 14) e) in
    let status = statuses_same a.status b.status (ap (part 15) e) in
    λ i. record {
      span_context = record {
        trace_id = trace_id i;
        span_id = span_id i;
        trace_flags = flags.0 i;
        is_remote = false;
        trace_state = state i;
      };
      parent_span_id = parent i;
      parent_span_is_remote = flags.1 i;
      span_kind = kind i;
      name = name i;
      start_time = start i;
      end_time = end i;
      attributes = attributes i;
      dropped_attributes_count = dropped i;
      events = record { events = events i; dropped_count = dropped_events i };
      links = record { links = links i; dropped_count = dropped_links i };
      status = status i;
      instrumentation_scope = scope i;
    }
