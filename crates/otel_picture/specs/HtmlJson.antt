-- The data of the HTML form as a JSON value: an array of traces, each with the members of its summary and its rows.
use Rattle.std.specs.Prelude.{ℕ, ◌-◌, List, [], ◌∷◌, codes, decimal, if◌then◌else◌, length}
use Rattle.std.specs.Str.{bytes_eq}
use Rattle.json.specs.Json.{Items, Json, Members, array, item, member, no_items, no_members, object}
use Rattle.json.specs.Json as json
use Rattle.opentelemetry.specs.Hex.{hex_text}
use Rattle.opentelemetry.specs.Plain.{PlainStatus}
use Rattle.otel_shown.specs.Shown.{PlainShownEvent, PlainShownLink, PlainShownSpan}
use Rattle.otel_picture.specs.Drawn.{PlainTraces}
use Rattle.otel_picture.specs.HtmlRows.{description_of, kind_word, parent_text, status_word}
use Rattle.otel_picture.specs.Layouts.{svg_layout}
use Rattle.otel_picture.specs.PlainSheets.{PlainSheet, errors_in, row_span, sheet_of}
use Rattle.otel_picture.specs.declared.rows.Row.{Row}

-- a member whose value is a text, or a number, before others
abbrev pub text_then : (key value : List ℕ) → Members → Members
text_then key value rest = member key (json.string value) rest

abbrev pub number_then : (key : List ℕ) → ℕ → Members → Members
number_then key value rest = member key (json.number (decimal value)) rest

-- the items of an array of what these are written as
abbrev pub items_of : {X : Type 0} → (X → Json) → List X → Items
items_of write [] = no_items
items_of write (x ∷ xs) = item (write x) (items_of write xs)

abbrev pub list_then : {X : Type 0} → (key : List ℕ) → (X → Json) → List X → Members → Members
list_then key write xs rest = member key (array (items_of write xs)) rest

abbrev pub event_json : PlainShownEvent → Json
event_json event =
    object (text_then (codes "timeUnixNano") (decimal event.timestamp) (text_then (codes "name") event.name
    (text_then (codes "attributes") event.attributes no_members)))

abbrev pub link_json : PlainShownLink → Json
link_json link =
    object (text_then (codes "traceId") (hex_text 32 link.trace_id)
    (text_then (codes "spanId") (hex_text 16 link.span_id)
    (text_then (codes "attributes") link.attributes no_members)))

-- the attributes of a span's resource, which are one text, where they are not those before it
abbrev pub resource_json : (before : List ℕ) → PlainShownSpan → Members
resource_json before span =
    if bytes_eq span.resource before then no_members else text_then (codes "resource") span.resource no_members

-- what was recorded of a span: its attributes, which are one text, its events and its links; and its resource
abbrev pub recorded_json : (before : List ℕ) → PlainShownSpan → Members
recorded_json before span =
    text_then (codes "attributes") span.attributes (list_then (codes "events") event_json span.events
    (list_then (codes "links") link_json span.links (resource_json before span)))

-- how it went, and what went wrong
abbrev pub status_then : PlainStatus → Members → Members
status_then status rest =
    text_then (codes "status") (status_word status) (text_then (codes "description") (description_of status) rest)

-- a row, after one whose resource has these attributes: how many levels it stands under a root, and its span. Moments
-- are in nanoseconds since 1970
abbrev pub row_json : PlainSheet → (before : List ℕ) → Row → Json
row_json sheet before row =
    object (number_then (codes "level") row.level
    (text_then (codes "spanId") (hex_text 16 (row_span sheet row).span_id)
    (text_then (codes "parentSpanId") (parent_text (row_span sheet row).parent_span_id)
    (text_then (codes "name") (row_span sheet row).name (text_then (codes "service") (row_span sheet row).service
    (text_then (codes "kind") (kind_word (row_span sheet row).kind)
    (text_then (codes "startTimeUnixNano") (decimal (row_span sheet row).start_time)
    (text_then (codes "endTimeUnixNano") (decimal (row_span sheet row).end_time)
    (status_then (row_span sheet row).status (recorded_json before (row_span sheet row)))))))))))

-- rows, the first of them after such a row
abbrev pub rows_json : PlainSheet → (before : List ℕ) → List Row → Items
rows_json sheet before [] = no_items
rows_json sheet before (row ∷ rows) =
    item (row_json sheet before row) (rows_json sheet (row_span sheet row).resource rows)

-- the service and the name of the span of the first row, before others
abbrev pub root_then : PlainSheet → List Row → Members → Members
root_then sheet [] rest = rest
root_then sheet (row ∷ rows) rest =
    text_then (codes "service") (row_span sheet row).service (text_then (codes "name") (row_span sheet row).name rest)

-- a trace
abbrev pub trace_json : PlainSheet → Json
trace_json sheet =
    object (text_then (codes "traceId") (hex_text 32 sheet.trace.trace_id) (root_then sheet sheet.trace.rows
    (text_then (codes "startTimeUnixNano") (decimal sheet.first)
    (number_then (codes "durationNano") (sheet.last - sheet.first)
    (number_then (codes "spans") (length sheet.trace.marks) (number_then (codes "errors") (errors_in sheet)
    (member (codes "rows") (array (rows_json sheet [] sheet.trace.rows)) no_members)))))))

-- all traces
abbrev pub html_json : PlainTraces → Json
html_json drawn =
    array (items_of (λ trace. trace_json (sheet_of svg_layout drawn.spans trace)) drawn.traces)
