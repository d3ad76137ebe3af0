-- Requests of the same bytes are the same, message by message.
use Rattle.std.proofs.Common.{◌≡◌, ℕ, List, [], ◌∷◌, ◌++◌, codes, refl, sym, ap, subst, ◌∙◌}
use Rattle.std.specs.FinMap.{entries}
use Rattle.std.specs.List.{AllByRecursion}
use Rattle.json.specs.Json as json
use Rattle.opentelemetry.specs.Plain.{PlainEvent, PlainLink, PlainScope, PlainStatus}
use Rattle.opentelemetry.specs.Tracestate.{tracestate_text}
use Rattle.otel_resource.specs.Resource.{PlainResource}
use Rattle.otel_export.specs.PlainSpanData.{PlainSpanData}
use Rattle.otel_otlp.proofs.Fitting.{all_joined, all_of_joined}
use Rattle.otel_otlp.proofs.RunsFit.{RunFits, batch_runs_fit, scope_fits}
use Rattle.otel_otlp.specs.Fits.{AttributeFits, EventFits, LinkFits, PairFits, ResourceFits, SpanFits}
use Rattle.otel_otlp.specs.Otlp.{or_empty, request}
use Rattle.otel_otlp.specs.OtlpSpan.{code_number, flags_of, kind_number, message_text}
use Rattle.otel_otlp.specs.ScopeRuns.{run_scope, scope_runs}
use Rattle.otel_otlp_protobuf.proofs.Fitting.{request_fits}
use Rattle.otel_otlp_protobuf.proofs.MembersAlike.{Alike, Row, SaysSame, Tells, flags_tell, in_order_alike, many_tell}
use Rattle.otel_otlp_protobuf.proofs.MembersAlike.{message_tells, moment_tells, number_tells, parent_id_tells, row}
use Rattle.otel_otlp_protobuf.proofs.MembersAlike.{rows_alike, rows_json, span_id_tells, text_tells, trace_id_tells}
use Rattle.otel_otlp_protobuf.proofs.ReadAlike.{same_bytes}
use Rattle.otel_otlp_protobuf.proofs.SameJson.{request_same}
use Rattle.otel_otlp_protobuf.proofs.ValuesAlike.{attributes_row, attributes_tell, pair_alike}
use Rattle.otel_otlp_protobuf.specs.NamedRequest.{request_bytes, request_members, resource_members}
use Rattle.otel_otlp_protobuf.specs.NamedRequest.{resource_spans_members, run_members, scope_members}
use Rattle.otel_otlp_protobuf.specs.NamedSpan.{event_members, link_members, span_members, status_members}
use Rattle.otel_otlp_protobuf.specs.NamedValues.{many, pair_members}
use Rattle.otel_otlp_protobuf.specs.Said.{flags, members_of, message, message_fields, moment, number}
use Rattle.otel_otlp_protobuf.specs.Said.{parent_id, span_id, text, trace_id}
use Rattle.otel_protobuf.proofs.ReadingBack.{reads_message}
use Rattle.otel_protobuf.specs.Reading.{ReadsAs}
use Rattle.otel_protobuf.specs.Wire.{fields_of}

event_alike : (a b : PlainEvent) → EventFits a → EventFits b → Alike (event_members a) (event_members b)
event_alike a b p q =
    let time = row (codes "timeUnixNano") 1 (moment a.timestamp) (moment b.timestamp) in
    let name = row (codes "name") 2 (text a.name) (text b.name) in
    let dropped =
    row (codes "droppedAttributesCount") 4 (number a.dropped_attributes_count) (number b.dropped_attributes_count) in
    in_order_alike (time ∷ name ∷ attributes_row 3 a.attributes b.attributes ∷ dropped ∷ []) refl (
      moment_tells time.name 1 a.timestamp b.timestamp,
      (
        text_tells name.name 2 a.name b.name,
        (
          attributes_tell 3 a.attributes b.attributes p.attributes q.attributes,
          (number_tells dropped.name 4 a.dropped_attributes_count b.dropped_attributes_count, tt),
        ),
      ),
    )

link_alike : (a b : PlainLink) → LinkFits a → LinkFits b → Alike (link_members a) (link_members b)
link_alike a b p q =
    let one = a.span_context in
    let other = b.span_context in
    let trace = row (codes "traceId") 1 (trace_id one.trace_id) (trace_id other.trace_id) in
    let span = row (codes "spanId") 2 (span_id one.span_id) (span_id other.span_id) in
    let state =
    row (codes "traceState") 3 (text (tracestate_text one.trace_state)) (text (tracestate_text other.trace_state)) in
    let dropped =
    row (codes "droppedAttributesCount") 5 (number a.dropped_attributes_count) (number b.dropped_attributes_count) in
    let flagged =
    row (codes "flags") 6 (flags (flags_of one.trace_flags one.is_remote))
    (flags (flags_of other.trace_flags other.is_remote)) in
    in_order_alike
    (trace ∷ span ∷ state ∷ attributes_row 4 a.attributes b.attributes ∷ dropped ∷ flagged ∷ []) refl (
      trace_id_tells trace.name 1 one.trace_id other.trace_id p.span_context.trace_id q.span_context.trace_id,
      (
        span_id_tells span.name 2 one.span_id other.span_id p.span_context.span_id q.span_context.span_id,
        (
          text_tells state.name 3 (tracestate_text one.trace_state) (tracestate_text other.trace_state),
          (
            attributes_tell 4 a.attributes b.attributes p.attributes q.attributes,
            (
              number_tells dropped.name 5 a.dropped_attributes_count b.dropped_attributes_count,
              (
                flags_tell flagged.name 6 (flags_of one.trace_flags one.is_remote)
                    (flags_of other.trace_flags other.is_remote),
                tt,
              ),
            ),
          ),
        ),
      ),
    )

status_alike : (a b : PlainStatus) → Alike (status_members a) (status_members b)
status_alike a b =
    let said = row (codes "message") 2 (text (message_text a)) (text (message_text b)) in
    let code = row (codes "code") 3 (number (code_number a)) (number (code_number b)) in
    in_order_alike (said ∷ code ∷ []) refl (
      text_tells said.name 2 (message_text a) (message_text b),
      (number_tells code.name 3 (code_number a) (code_number b), tt),
    )

-- the members of a span: which span it is, what was recorded of it, and its flags, which have the last number
module _ (a b : PlainSpanData) (p : SpanFits a) (q : SpanFits b) where
  abbrev identity_rows : List Row
  identity_rows =
      row (codes "traceId") 1 (trace_id a.span_context.trace_id) (trace_id b.span_context.trace_id)
      ∷ row (codes "spanId") 2 (span_id a.span_context.span_id) (span_id b.span_context.span_id)
      ∷ row (codes "traceState") 3 (text (tracestate_text a.span_context.trace_state))
      (text (tracestate_text b.span_context.trace_state))
      ∷ row (codes "parentSpanId") 4 (parent_id a.parent_span_id) (parent_id b.parent_span_id) ∷ []

  identity_tells : AllByRecursion Tells identity_rows
  identity_tells = (
    trace_id_tells (codes "traceId") 1 a.span_context.trace_id b.span_context.trace_id p.span_context.trace_id
        q.span_context.trace_id,
    (
      span_id_tells (codes "spanId") 2 a.span_context.span_id b.span_context.span_id p.span_context.span_id
          q.span_context.span_id,
      (
        text_tells (codes "traceState") 3 (tracestate_text a.span_context.trace_state)
            (tracestate_text b.span_context.trace_state),
        (
          parent_id_tells (codes "parentSpanId") 4 a.parent_span_id b.parent_span_id p.parent_span_id q.parent_span_id,
          tt,
        ),
      ),
    ),
  )

  abbrev name_rows : List Row
  name_rows =
      row (codes "name") 5 (text a.name) (text b.name)
      ∷ row (codes "kind") 6 (number (kind_number a.span_kind)) (number (kind_number b.span_kind))
      ∷ row (codes "startTimeUnixNano") 7 (moment a.start_time) (moment b.start_time)
      ∷ row (codes "endTimeUnixNano") 8 (moment a.end_time) (moment b.end_time) ∷ []

  name_tells : AllByRecursion Tells name_rows
  name_tells = (
    text_tells (codes "name") 5 a.name b.name,
    (
      number_tells (codes "kind") 6 (kind_number a.span_kind) (kind_number b.span_kind),
      (
        moment_tells (codes "startTimeUnixNano") 7 a.start_time b.start_time,
        (moment_tells (codes "endTimeUnixNano") 8 a.end_time b.end_time, tt),
      ),
    ),
  )

  abbrev recorded_rows : List Row
  recorded_rows =
      attributes_row 9 a.attributes b.attributes
      ∷ row (codes "droppedAttributesCount") 10 (number a.dropped_attributes_count) (number b.dropped_attributes_count)
      ∷ row (codes "events") 11 (many event_members a.events.events) (many event_members b.events.events)
      ∷ row (codes "droppedEventsCount") 12 (number a.events.dropped_count) (number b.events.dropped_count)
      ∷ row (codes "links") 13 (many link_members a.links.links) (many link_members b.links.links)
      ∷ row (codes "droppedLinksCount") 14 (number a.links.dropped_count) (number b.links.dropped_count)
      ∷ row (codes "status") 15 (message (members_of (status_members a.status)))
      (message (members_of (status_members b.status))) ∷ []

  recorded_tells : AllByRecursion Tells recorded_rows
  recorded_tells = (
    attributes_tell 9 a.attributes b.attributes p.attributes q.attributes,
    (
      number_tells (codes "droppedAttributesCount") 10 a.dropped_attributes_count b.dropped_attributes_count,
      (
        many_tell (codes "events") 11 event_members event_members EventFits EventFits event_alike a.events.events
            b.events.events p.events q.events,
        (
          number_tells (codes "droppedEventsCount") 12 a.events.dropped_count b.events.dropped_count,
          (
            many_tell (codes "links") 13 link_members link_members LinkFits LinkFits link_alike a.links.links
                b.links.links p.links q.links,
            (
              number_tells (codes "droppedLinksCount") 14 a.links.dropped_count b.links.dropped_count,
              (
                message_tells (codes "status") 15 (status_members a.status) (status_members b.status)
                    (status_alike a.status b.status),
                tt,
              ),
            ),
          ),
        ),
      ),
    ),
  )

  abbrev flags_row : Row
  flags_row =
      row (codes "flags") 16 (flags (flags_of a.span_context.trace_flags a.parent_span_is_remote))
      (flags (flags_of b.span_context.trace_flags b.parent_span_is_remote))

  flags_told : Tells flags_row
  flags_told =
      flags_tell (codes "flags") 16 (flags_of a.span_context.trace_flags a.parent_span_is_remote)
      (flags_of b.span_context.trace_flags b.parent_span_is_remote)

  -- in JSON the flags stand after the parent
  span_alike : Alike (span_members a) (span_members b)
  span_alike both =
      let kept = recorded_rows ++ flags_row ∷ [] in
      let told = all_joined Tells recorded_rows (flags_row ∷ []) recorded_tells (flags_told, tt) in
      let same =
      rows_alike 0 (identity_rows ++ (name_rows ++ kept)) refl
      (all_joined Tells identity_rows (name_rows ++ kept) identity_tells
      (all_joined Tells name_rows kept name_tells told)) both in
      let front = all_of_joined SaysSame identity_rows (name_rows ++ kept) same in
      let named = all_of_joined SaysSame name_rows kept front.1 in
      let last = all_of_joined SaysSame recorded_rows (flags_row ∷ []) named.1 in
      ap json.object (rows_json (identity_rows ++ flags_row ∷ (name_rows ++ recorded_rows))
      (all_joined SaysSame identity_rows (flags_row ∷ (name_rows ++ recorded_rows)) front.0
      (last.1.0, all_joined SaysSame name_rows recorded_rows named.0 last.0)))

scope_alike : (a b : PlainScope) → AllByRecursion AttributeFits a.attributes → AllByRecursion AttributeFits b.attributes
    → Alike (scope_members a) (scope_members b)
scope_alike a b p q =
    let name = row (codes "name") 1 (text a.name) (text b.name) in
    let version = row (codes "version") 2 (text (or_empty a.version)) (text (or_empty b.version)) in
    let dropped = row (codes "droppedAttributesCount") 4 (number 0) (number 0) in
    in_order_alike (name ∷ version ∷ attributes_row 3 a.attributes b.attributes ∷ dropped ∷ []) refl (
      text_tells name.name 1 a.name b.name,
      (
        text_tells version.name 2 (or_empty a.version) (or_empty b.version),
        (attributes_tell 3 a.attributes b.attributes p q, (number_tells dropped.name 4 0 0, tt)),
      ),
    )

run_alike : (a b : List PlainSpanData) → RunFits a → RunFits b → Alike (run_members a) (run_members b)
run_alike a b p q =
    let one = run_scope a in
    let other = run_scope b in
    let scope =
    row (codes "scope") 1 (message (members_of (scope_members one))) (message (members_of (scope_members other))) in
    let spans = row (codes "spans") 2 (many span_members a) (many span_members b) in
    let schema = row (codes "schemaUrl") 3 (text (or_empty one.schema_url)) (text (or_empty other.schema_url)) in
    in_order_alike (scope ∷ spans ∷ schema ∷ []) refl (
      message_tells scope.name 1 (scope_members one) (scope_members other)
          (scope_alike one other (scope_fits a p) (scope_fits b q)),
      (
        many_tell spans.name 2 span_members span_members SpanFits SpanFits span_alike a b p.fits q.fits,
        (text_tells schema.name 3 (or_empty one.schema_url) (or_empty other.schema_url), tt),
      ),
    )

resource_alike : (a b : PlainResource) → ResourceFits a → ResourceFits b
    → Alike (resource_members a) (resource_members b)
resource_alike a b p q =
    let pairs =
    row (codes "attributes") 1 (many pair_members (entries a.attributes)) (many pair_members (entries b.attributes)) in
    let dropped = row (codes "droppedAttributesCount") 2 (number 0) (number 0) in
    in_order_alike (pairs ∷ dropped ∷ []) refl (
      many_tell pairs.name 1 pair_members pair_members PairFits PairFits pair_alike (entries a.attributes)
          (entries b.attributes) p q,
      (number_tells dropped.name 2 0 0, tt),
    )

-- requests, each of a resource and a batch
module _ (these those : PlainResource) (fit : ResourceFits these) (others_fit : ResourceFits those) where
  spans_alike : (a b : List PlainSpanData) → AllByRecursion SpanFits a → AllByRecursion SpanFits b
      → Alike (resource_spans_members these a) (resource_spans_members those b)
  spans_alike a b p q =
      let resource =
      row (codes "resource") 1 (message (members_of (resource_members these)))
      (message (members_of (resource_members those))) in
      let runs = row (codes "scopeSpans") 2 (many run_members (scope_runs a)) (many run_members (scope_runs b)) in
      let schema = row (codes "schemaUrl") 3 (text these.schema_url) (text those.schema_url) in
      in_order_alike (resource ∷ runs ∷ schema ∷ []) refl (
        message_tells resource.name 1 (resource_members these) (resource_members those)
            (resource_alike these those fit others_fit),
        (
          many_tell runs.name 2 run_members run_members RunFits RunFits run_alike (scope_runs a) (scope_runs b)
              (batch_runs_fit a p) (batch_runs_fit b q),
          (text_tells schema.name 3 these.schema_url those.schema_url, tt),
        ),
      )

  request_alike : (a b : List PlainSpanData) → AllByRecursion SpanFits a → AllByRecursion SpanFits b
      → Alike (request_members these a) (request_members those b)
  request_alike a b p q =
      let spans =
      row (codes "resourceSpans") 1 (many (resource_spans_members these) (a ∷ []))
      (many (resource_spans_members those) (b ∷ [])) in
      in_order_alike (spans ∷ []) refl (
        many_tell spans.name 1 (resource_spans_members these) (resource_spans_members those) (AllByRecursion SpanFits)
            (AllByRecursion SpanFits) spans_alike (a ∷ []) (b ∷ []) (p, tt) (q, tt),
        tt,
      )

  -- what their bytes are read as is what they say
  pub same_requests : (a b : List PlainSpanData) → AllByRecursion SpanFits a → AllByRecursion SpanFits b
      → request_bytes these a ≡ request_bytes those b → request these a ≡ request those b
  same_requests a b p q e =
      let one = message_fields (request_members these a) in
      let other = message_fields (request_members those b) in
      let back : ReadsAs (request_bytes those b) (fields_of other) =
      reads_message (fields_of other) (request_fits those b others_fit q) in
      sym (request_same these a)
      ∙ request_alike a b p q (same_bytes (request_bytes these a) one other
      (reads_message (fields_of one) (request_fits these a fit p))
      (subst (λ (bs : List ℕ). ReadsAs bs (fields_of other)) (sym e) back))
      ∙ request_same those b
