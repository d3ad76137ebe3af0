-- The data of the HTML form as they are written, token by token: the members of each object by the function that writes
-- them.
use Rattle.std.specs.Prelude.{ℕ, ◌==◌, List, [], ◌∷◌, ◌++◌, codes, decimal, if◌then◌else◌}
use Rattle.std.specs.List.{flat_map}
use Rattle.std.specs.Str.{bytes_eq}
use Rattle.json.specs.Token.{Token}
use Rattle.json.specs.Token as token
use Rattle.opentelemetry.specs.Hex.{hex_text}
use Rattle.opentelemetry.specs.Plain.{PlainStatus, unset, error, ok}
use Rattle.opentelemetry.specs.declared.trace.span_kind.SpanKind.{SpanKind}
use Rattle.opentelemetry.specs.declared.trace.span_kind.SpanKind.TheVariants as kinds
use Rattle.otel_shown.specs.Shown.{PlainShownEvent, PlainShownLink, PlainShownSpan}
use Rattle.otel_picture.specs.Layouts.{svg_layout}
use Rattle.otel_picture.specs.PlainSheets.{PlainSheet, row_span, sheet_of}
use Rattle.otel_picture.specs.Summaries.{number_member, summary_members, text_member}
use Rattle.otel_picture.specs.Traces.{PlainTrace}
use Rattle.otel_picture.specs.declared.rows.Row.{Row}

abbrev pub kind_word : SpanKind → List ℕ
kind_word kinds.Client = codes "client"
kind_word kinds.Server = codes "server"
kind_word kinds.Producer = codes "producer"
kind_word kinds.Consumer = codes "consumer"
kind_word kinds.Internal = codes "internal"

abbrev pub status_word : PlainStatus → List ℕ
status_word unset = codes "unset"
status_word ok = codes "ok"
status_word (error description) = codes "error"

-- what went wrong; nothing where it is no error
abbrev pub description_of : PlainStatus → List ℕ
description_of unset = []
description_of ok = []
description_of (error description) = description

-- the id of a parent; nothing where there is none
abbrev pub parent_text : ℕ → List ℕ
parent_text id = if id == 0 then [] else hex_text 16 id

-- which span it is, and how many levels its row stands under a root
abbrev pub place_members : (level : ℕ) → PlainShownSpan → List Token
place_members level span =
    number_member (codes "level") level ++ (text_member (codes "spanId") (hex_text 16 span.span_id)
    ++ text_member (codes "parentSpanId") (parent_text span.parent_span_id))

abbrev pub name_members : PlainShownSpan → List Token
name_members span =
    text_member (codes "name") span.name ++ (text_member (codes "service") span.service
    ++ text_member (codes "kind") (kind_word span.kind))

-- its moments, in nanoseconds since 1970, which stand in texts as in OTLP
abbrev pub span_time_members : PlainShownSpan → List Token
span_time_members span =
    text_member (codes "startTimeUnixNano") (decimal span.start_time)
    ++ text_member (codes "endTimeUnixNano") (decimal span.end_time)

abbrev pub status_members : PlainStatus → List Token
status_members status =
    text_member (codes "status") (status_word status) ++ text_member (codes "description") (description_of status)

-- an event, and a link, as an object
abbrev pub event_tokens : PlainShownEvent → List Token
event_tokens event =
    token.begin_object ∷ (text_member (codes "timeUnixNano") (decimal event.timestamp)
    ++ (text_member (codes "name") event.name ++ (text_member (codes "attributes") event.attributes
    ++ token.end_object ∷ [])))

abbrev pub link_tokens : PlainShownLink → List Token
link_tokens link =
    token.begin_object ∷ (text_member (codes "traceId") (hex_text 32 link.trace_id)
    ++ (text_member (codes "spanId") (hex_text 16 link.span_id) ++ (text_member (codes "attributes") link.attributes
    ++ token.end_object ∷ [])))

-- a member whose value is an array of what these are written as
abbrev pub list_member : {X : Type 0} → (key : List ℕ) → (X → List Token) → List X → List Token
list_member key write xs =
    token.key key ∷ token.begin_array ∷ (flat_map write xs ++ token.end_array ∷ [])

-- its attributes, which are one text, its events and its links
abbrev pub recorded_members : PlainShownSpan → List Token
recorded_members span =
    text_member (codes "attributes") span.attributes
    ++ (list_member (codes "events") event_tokens span.events ++ list_member (codes "links") link_tokens span.links)

-- the attributes of its resource, which are one text, where they are not those before it
abbrev pub resource_members : (before : List ℕ) → PlainShownSpan → List Token
resource_members before span =
    if bytes_eq span.resource before then [] else text_member (codes "resource") span.resource

abbrev pub row_members : (before : List ℕ) → (level : ℕ) → PlainShownSpan → List Token
row_members before level span =
    place_members level span ++ (name_members span ++ (span_time_members span ++ (status_members span.status
    ++ (recorded_members span ++ resource_members before span))))

-- a row as an object, after a row whose resource has these attributes
abbrev pub row_tokens : PlainSheet → (before : List ℕ) → Row → List Token
row_tokens sheet before row =
    token.begin_object ∷ (row_members before row.level (row_span sheet row) ++ token.end_object ∷ [])

-- rows, the first of them after such a row
abbrev pub rows_tokens : PlainSheet → (before : List ℕ) → List Row → List Token
rows_tokens sheet before [] = []
rows_tokens sheet before (row ∷ rows) =
    row_tokens sheet before row ++ rows_tokens sheet (row_span sheet row).resource rows

-- all rows: no attributes stand before the first
abbrev pub rows_member : PlainSheet → List Row → List Token
rows_member sheet rows =
    token.key (codes "rows") ∷ token.begin_array ∷ (rows_tokens sheet [] rows ++ token.end_array ∷ [])

-- a trace as an object: the members of its summary, and its rows
abbrev pub trace_tokens : PlainSheet → List Token
trace_tokens sheet =
    token.begin_object ∷ (summary_members sheet ++ (rows_member sheet sheet.trace.rows ++ token.end_object ∷ []))

abbrev pub traces_tokens : List PlainShownSpan → List PlainTrace → List Token
traces_tokens spans traces = flat_map (λ trace. trace_tokens (sheet_of svg_layout spans trace)) traces

-- all traces as an array
abbrev pub html_tokens : List PlainShownSpan → List PlainTrace → List Token
html_tokens spans traces = token.begin_array ∷ (traces_tokens spans traces ++ token.end_array ∷ [])
