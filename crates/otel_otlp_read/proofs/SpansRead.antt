-- A span that is written is read back as it is shown.
use Rattle.std.proofs.Common.{◌≡◌, ◌<◌, ◌^◌, ℕ, pos, zero, suc, true, cond, List, [], ◌∷◌, map, codes, Some, Ok}
use Rattle.std.proofs.Common.{refl, ap, ◌∙◌, arith}
use borrow.Author.Tests.{ne_eqb}
use Rattle.std.proofs.lemmas.List.Concat.{flat_map_single}
use Rattle.std.specs.Fmt.{decimal}
use Rattle.std.specs.List.{AllByRecursion}
use Rattle.opentelemetry.specs.Hex.{hex_text}
use Rattle.opentelemetry.specs.Plain.{PlainEvent, PlainKeyValue, PlainLink, PlainStatus, unset, error, ok}
use Rattle.opentelemetry.specs.declared.trace.span_kind.SpanKind.{SpanKind}
use Rattle.opentelemetry.specs.declared.trace.span_kind.SpanKind.TheVariants as kinds
use Rattle.otel_export.specs.PlainSpanData.{PlainSpanData}
use Rattle.otel_otlp.specs.Fields.{items_of}
use Rattle.otel_otlp.specs.Fits.{AttributeFits, EventFits, LinkFits, SpanFits}
use Rattle.otel_otlp.specs.OtlpSpan.{event_json, kind_number, link_json, parent_text, span_json, status_json}
use Rattle.otel_otlp.specs.OtlpValues.{attribute_json}
use Rattle.otel_shown.specs.Shown.{PlainShownResource, shown_event, shown_link}
use Rattle.otel_shown.specs.Shown as shown
use Rattle.otel_otlp_read.specs.declared.fault.Fault.TheVariants as faults
use Rattle.otel_otlp_read.specs.declared.left_out.ItemList.{ItemList}
use Rattle.otel_otlp_read.specs.declared.left_out.ItemList.TheVariants as lists
use Rattle.otel_otlp_read.specs.Kept.{kept_by, kept_from, of_part}
use Rattle.otel_otlp_read.specs.Members.{listed}
use Rattle.otel_otlp_read.specs.Reading.{needed}
use Rattle.otel_otlp_read.specs.Numbers.{id_of, is_integer, moment_of, parent_number, parent_of, whole_number}
use Rattle.otel_otlp_read.specs.SpanLists.{attribute_line, attributes_of, event_at, event_in, events_of}
use Rattle.otel_otlp_read.specs.SpanLists.{link_at, link_in, links_of}
use Rattle.otel_otlp_read.specs.SpanParts.{kind_of, numbered_code, numbered_kind, span_in, status_in, status_of}
use Rattle.otel_otlp_read.proofs.DigitsRead.{decimal_whole, hex_id, hex_parent, signed_integer}
use Rattle.otel_otlp_read.proofs.KeptReading.{all_kept, items_back, kept_back}
use Rattle.otel_otlp_read.proofs.ValuesRead.{attribute_back, listed-items_of}

-- a moment
moment_back : (n : ℕ) → n < 2 ^ 64 → needed faults.TimeForm (whole_number (decimal n)) ≡ Ok n
moment_back n small = ap (needed faults.TimeForm) (decimal_whole n small)

-- a parent's id, which is empty where there is none
some_parent : (n : ℕ) → parent_text (suc n) ≡ hex_text 16 (suc n)
some_parent n = ap (λ none. cond none [] (hex_text 16 (suc n))) (ne_eqb (suc n) 0 (λ e. omega arith))

parent_back : (n : ℕ) → n < 2 ^ 64 → parent_number (parent_text n) ≡ Some n
parent_back zero small = refl
parent_back (suc n) small = ap parent_number (some_parent n) ∙ hex_parent (suc n) (omega arith)

-- a digit is a whole number
digit_integer : (n : ℕ) → n < 10 → is_integer (decimal n) ≡ true
digit_integer n small = signed_integer (pos n) (record { sfits = omega arith })

-- a kind
kind_back : (kind : SpanKind) → numbered_kind (decimal (kind_number kind)) ≡ Ok kind
unfolding numbered_kind
kind_back kinds.Internal = rw (decimal_whole 1 (omega arith), digit_integer 1 (omega arith)) refl
kind_back kinds.Server = rw (decimal_whole 2 (omega arith)) refl
kind_back kinds.Client = rw (decimal_whole 3 (omega arith)) refl
kind_back kinds.Producer = rw (decimal_whole 4 (omega arith)) refl
kind_back kinds.Consumer = rw (decimal_whole 5 (omega arith)) refl

-- a status
status_back : (status : PlainStatus) → status_in (status_json status) ≡ Ok status
unfolding status_in numbered_code
status_back unset = rw (decimal_whole 0 (omega arith), digit_integer 0 (omega arith)) refl
status_back ok = rw (decimal_whole 1 (omega arith)) refl
status_back (error description) = rw (decimal_whole 2 (omega arith)) refl

-- attributes, as they stand in a member: none is left out
attributes_back : (list : ItemList) (attributes : List PlainKeyValue) → AllByRecursion AttributeFits attributes
    → kept_from attribute_line list 1 (listed (items_of (map attribute_json attributes)))
    ≡ all_kept (shown.attribute_lines attributes)
attributes_back list attributes h =
    ap (kept_from attribute_line list 1) (listed-items_of (map attribute_json attributes))
    ∙ items_back attribute_line list attribute_json shown.attribute_line AttributeFits attribute_back attributes h

-- an event
event_attributes_back : (list : ItemList) (event : PlainEvent) → EventFits event
    → attributes_of list (event_json event) ≡ Ok (all_kept (shown.attribute_lines event.attributes))
unfolding attributes_of
event_attributes_back list event h = ap Ok (attributes_back list event.attributes h.attributes)

event_back : (span_id number : ℕ) (event : PlainEvent) → EventFits event
    → event_in span_id number (event_json event) ≡ Ok (all_kept (shown_event event ∷ []))
unfolding event_in
event_back span_id number event h = rw (
  moment_back event.timestamp h.timestamp,
  event_attributes_back (lists.EventAttributes span_id number) event h,
) refl

-- a link
link_attributes_back : (list : ItemList) (link : PlainLink) → LinkFits link
    → attributes_of list (link_json link) ≡ Ok (all_kept (shown.attribute_lines link.attributes))
unfolding attributes_of
link_attributes_back list link h = ap Ok (attributes_back list link.attributes h.attributes)

link_back : (span_id number : ℕ) (link : PlainLink) → LinkFits link
    → link_in span_id number (link_json link) ≡ Ok (all_kept (shown_link link ∷ []))
unfolding link_in
link_back span_id number link h = rw (
  hex_id 32 link.span_context.trace_id (omega (arith, h.span_context.trace_id)),
  hex_id 16 link.span_context.span_id (omega (arith, h.span_context.span_id)),
  link_attributes_back (lists.LinkAttributes span_id number) link h,
) refl

-- events
all_events_back : (span_id : ℕ) (events : List PlainEvent) → AllByRecursion EventFits events
    → kept_by (event_at span_id) 1 (map event_json events) ≡ all_kept (map shown_event events)
all_events_back span_id events h =
    kept_back (event_at span_id) event_json (λ e. shown_event e ∷ []) EventFits
    (λ number e k. ap (of_part (record { list = lists.SpanEvents span_id; number = number }))
    (event_back span_id number e k)) 1 events h
    ∙ ap all_kept (flat_map_single shown_event events)

-- and links
all_links_back : (span_id : ℕ) (links : List PlainLink) → AllByRecursion LinkFits links
    → kept_by (link_at span_id) 1 (map link_json links) ≡ all_kept (map shown_link links)
all_links_back span_id links h =
    kept_back (link_at span_id) link_json (λ l. shown_link l ∷ []) LinkFits
    (λ number l k. ap (of_part (record { list = lists.SpanLinks span_id; number = number }))
    (link_back span_id number l k)) 1 links h
    ∙ ap all_kept (flat_map_single shown_link links)

-- the members of a span that is written
module _ (span : PlainSpanData) (h : SpanFits span) where
  trace_id_back : id_of (codes "traceId") 32 faults.TraceIdMissing faults.TraceIdForm (span_json span)
      ≡ Ok span.span_context.trace_id
  trace_id_back =
      ap (needed faults.TraceIdForm) (hex_id 32 span.span_context.trace_id (omega (arith, h.span_context.trace_id)))

  span_id_back : id_of (codes "spanId") 16 faults.SpanIdMissing faults.SpanIdForm (span_json span)
      ≡ Ok span.span_context.span_id
  span_id_back =
      ap (needed faults.SpanIdForm) (hex_id 16 span.span_context.span_id (omega (arith, h.span_context.span_id)))

  parent_id_back : parent_of (codes "parentSpanId") (span_json span) ≡ Ok span.parent_span_id
  parent_id_back = ap (needed faults.ParentForm) (parent_back span.parent_span_id h.parent_span_id)

  span_kind_back : kind_of (span_json span) ≡ Ok span.span_kind
  span_kind_back = kind_back span.span_kind

  start_back : moment_of (codes "startTimeUnixNano") (span_json span) ≡ Ok span.start_time
  start_back = moment_back span.start_time h.start_time

  end_back : moment_of (codes "endTimeUnixNano") (span_json span) ≡ Ok span.end_time
  end_back = moment_back span.end_time h.end_time

  span_status_back : status_of (span_json span) ≡ Ok span.status
  span_status_back = status_back span.status

  span_attributes_back : (list : ItemList)
      → attributes_of list (span_json span) ≡ Ok (all_kept (shown.attribute_lines span.attributes))
  unfolding attributes_of
  span_attributes_back list = ap Ok (attributes_back list span.attributes h.attributes)

  span_events_back : (span_id : ℕ) → events_of span_id (span_json span) ≡ Ok (all_kept (map shown_event span.events.events))
  unfolding events_of
  span_events_back span_id =
      ap (λ js. Ok (kept_by (event_at span_id) 1 js)) (listed-items_of (map event_json span.events.events))
      ∙ ap Ok (all_events_back span_id span.events.events h.events)

  span_links_back : (span_id : ℕ) → links_of span_id (span_json span) ≡ Ok (all_kept (map shown_link span.links.links))
  unfolding links_of
  span_links_back span_id =
      ap (λ js. Ok (kept_by (link_at span_id) 1 js)) (listed-items_of (map link_json span.links.links))
      ∙ ap Ok (all_links_back span_id span.links.links h.links)

  pub span_back : (resource : PlainShownResource) → span_in resource (span_json span)
      ≡ Ok (record { span = shown.shown_span resource span; left_out = [] })
  unfolding span_in
  span_back resource =
      rw (
        trace_id_back,
        span_id_back,
        parent_id_back,
        span_kind_back,
        start_back,
        end_back,
        span_status_back,
        span_attributes_back (lists.SpanAttributes span.span_context.span_id),
        span_events_back span.span_context.span_id,
        span_links_back span.span_context.span_id,
      ) refl
