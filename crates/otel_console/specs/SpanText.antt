-- The text of an ended span: a line.
use Rattle.std.specs.Prelude.{ℕ, List, [], ◌∷◌, ◌++◌, Some, length, map, codes, if◌then◌else◌, ◌==◌}
use Rattle.std.specs.List.{join_with_byte, flat_map}
use Rattle.std.specs.Fmt.{decimal}
use Rattle.opentelemetry.specs.Hex.{hex_text}
use Rattle.opentelemetry.specs.ValueText.{value_text}
use Rattle.opentelemetry.specs.Plain.{PlainKeyValue, PlainEvent, PlainStatus, unset, error, ok}
use Rattle.otel_export.specs.PlainSpanData.{PlainSpanData, PlainSpanEvents, PlainSpanLinks}
use Rattle.otel_lines.specs.Form.{Form}

-- a text that ends its line
abbrev pub line : List ℕ → List ℕ
line text = text ++ 10 ∷ []

-- fields with a space between each two
abbrev pub spaced : List (List ℕ) → List ℕ
spaced = join_with_byte 32

-- items in brackets, with a comma between each two
abbrev pub listed : {X : Type 0} → (X → List ℕ) → List X → List ℕ
listed text items = 91 ∷ (join_with_byte 44 (map text items) ++ 93 ∷ [])

-- what stands before the item at a place
abbrev pub comma_before : ℕ → List ℕ
comma_before i = if i == 0 then [] else 44 ∷ []

-- how an operation went; an error has its description in parentheses
abbrev pub status_text : PlainStatus → List ℕ
status_text unset = codes "unset"
status_text (error description) = codes "error(" ++ (description ++ codes ")")
status_text ok = codes "ok"

-- an attribute's key and value
abbrev pub attribute_text : PlainKeyValue → List ℕ
attribute_text attribute = attribute.key ++ 61 ∷ value_text attribute.value

-- an event's name and moment
abbrev pub event_text : PlainEvent → List ℕ
event_text event = event.name ++ 64 ∷ decimal event.timestamp

-- how many of a span's links were kept, and how many were not
abbrev pub links_text : PlainSpanLinks → List ℕ
links_text links = spaced (codes "links" ∷ decimal (length links.links) ∷ decimal links.dropped_count ∷ [])

-- the events of a span that were kept, and how many were not
abbrev pub events_text : PlainSpanEvents → List ℕ
events_text events = spaced (codes "events" ∷ listed event_text events.events ∷ decimal events.dropped_count ∷ [])

-- which span it is, what it is called, when it ran and how it went; the parent's id is zero where there is no parent
abbrev pub identity_text : PlainSpanData → List ℕ
identity_text span =
    spaced (codes "span" ∷ hex_text 32 span.span_context.trace_id ∷ hex_text 16 span.span_context.span_id ∷ hex_text
    16 span.parent_span_id ∷ hex_text 2 span.span_context.trace_flags
    ∷ decimal span.start_time ∷ decimal span.end_time ∷ span.name ∷ status_text span.status ∷ [])

-- which span it is and when it ran, with a space after each
abbrev pub ids_and_times_text : PlainSpanData → List ℕ
ids_and_times_text span =
    spaced (hex_text 32 span.span_context.trace_id ∷ hex_text 16 span.span_context.span_id
    ∷ hex_text 16 span.parent_span_id ∷ hex_text 2 span.span_context.trace_flags
    ∷ decimal span.start_time ∷ decimal span.end_time ∷ [] ∷ [])

-- the attributes of a span that were kept, and how many were not
abbrev pub attributes_text : PlainSpanData → List ℕ
attributes_text span =
    spaced (codes "attrs" ∷ listed attribute_text span.attributes ∷ decimal span.dropped_attributes_count ∷ [])

-- the line of an exported span
abbrev pub span_line : PlainSpanData → List ℕ
span_line span =
    line (spaced (identity_text span ∷ attributes_text span ∷ events_text span.events ∷ links_text span.links ∷ []))

-- the lines of exported spans
abbrev pub span_lines : List PlainSpanData → List ℕ
span_lines = flat_map span_line

-- the form of these lines, which do not show the resource
abbrev pub console_lines : Form
console_lines = record { bytes = λ resource batch. span_lines batch; line_end = Some 10 }
