-- The attributes, the events and the links of a span, and the attributes of these. One that does not read is left out.
use Rattle.std.specs.Prelude.{ℕ, List, [], ◌∷◌, codes, Result, Ok, false}
use Rattle.json.specs.Json.{Json}
use Rattle.otel_shown.specs.Shown.{PlainShownEvent, PlainShownLink}
use Rattle.otel_otlp_read.specs.declared.fault.Fault.{Fault}
use Rattle.otel_otlp_read.specs.declared.fault.Fault.TheVariants as faults
use Rattle.otel_otlp_read.specs.declared.left_out.ItemList.{ItemList}
use Rattle.otel_otlp_read.specs.declared.left_out.ItemList.TheVariants as lists
use Rattle.otel_otlp_read.specs.Reading.{◌>>=◌}
use Rattle.otel_otlp_read.specs.Kept.{Kept, kept_by, kept_of, of_part}
use Rattle.otel_otlp_read.specs.Members.{list_of, object_or, text_of}
use Rattle.otel_otlp_read.specs.Numbers.{id_of, moment_of}
use Rattle.otel_otlp_read.specs.AnyValue.{shown_pair, shown_value}

-- the line of an attribute
unfoldable pub attribute_line : Json → Result (List ℕ) Fault
attribute_line j = shown_pair (shown_value 64 false) j >>= λ text. Ok (10 ∷ text)

-- the attributes of a span, an event or a link, this list of them: their lines
unfoldable pub attributes_of : ItemList → Json → Result (Kept ℕ) Fault
attributes_of list = kept_of attribute_line list (codes "attributes") faults.AttributesType

-- an event of a span, by its number there
unfoldable pub event_in : ℕ → ℕ → Json → Result (Kept PlainShownEvent) Fault
event_in span_id n j = do
  _ ← object_or faults.EventType j
  timestamp ← moment_of (codes "timeUnixNano") j
  name ← text_of (codes "name") faults.NameType j
  attributes ← attributes_of (lists.EventAttributes span_id n) j
  Ok (record {
    kept = record { timestamp = timestamp; name = name; attributes = attributes.kept } ∷ [];
    left_out = attributes.left_out;
  })

abbrev pub event_at : ℕ → ℕ → Json → Kept PlainShownEvent
event_at span_id n j = of_part (record { list = lists.SpanEvents span_id; number = n }) (event_in span_id n j)

unfoldable pub events_of : ℕ → Json → Result (Kept PlainShownEvent) Fault
events_of span_id j = list_of (codes "events") faults.EventsType j >>= λ items. Ok (kept_by (event_at span_id) 1 items)

-- a link of a span, by its number there
unfoldable pub link_in : ℕ → ℕ → Json → Result (Kept PlainShownLink) Fault
link_in owner n j = do
  _ ← object_or faults.LinkType j
  trace_id ← id_of (codes "traceId") 32 faults.TraceIdMissing faults.TraceIdForm j
  span_id ← id_of (codes "spanId") 16 faults.SpanIdMissing faults.SpanIdForm j
  attributes ← attributes_of (lists.LinkAttributes owner n) j
  Ok (record {
    kept = record { trace_id = trace_id; span_id = span_id; attributes = attributes.kept } ∷ [];
    left_out = attributes.left_out;
  })

abbrev pub link_at : ℕ → ℕ → Json → Kept PlainShownLink
link_at span_id n j = of_part (record { list = lists.SpanLinks span_id; number = n }) (link_in span_id n j)

unfoldable pub links_of : ℕ → Json → Result (Kept PlainShownLink) Fault
links_of span_id j = list_of (codes "links") faults.LinksType j >>= λ items. Ok (kept_by (link_at span_id) 1 items)
