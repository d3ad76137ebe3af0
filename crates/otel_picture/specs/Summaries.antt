-- What the summary writes: a line of JSON a trace.
use Rattle.std.specs.Prelude.{ℕ, ◌-◌, List, [], ◌∷◌, ◌++◌, codes, decimal, length}
use Rattle.std.specs.List.{flat_map}
use Rattle.json.specs.Print.{print}
use Rattle.json.specs.Token.{Token}
use Rattle.json.specs.Token as token
use Rattle.opentelemetry.specs.Hex.{hex_text}
use Rattle.otel_shown.specs.Shown.{PlainShownSpan}
use Rattle.otel_picture.specs.Drawn.{PlainTraces}
use Rattle.otel_picture.specs.Layouts.{svg_layout}
use Rattle.otel_picture.specs.PlainSheets.{PlainSheet, errors_in, row_span, sheet_of}
use Rattle.otel_picture.specs.Traces.{PlainTrace}
use Rattle.otel_picture.specs.declared.rows.Row.{Row}

-- a member whose value is a text, or a number
abbrev pub text_member : (key value : List ℕ) → List Token
text_member key value = token.key key ∷ token.string value ∷ []

abbrev pub number_member : (key : List ℕ) → ℕ → List Token
number_member key value = token.key key ∷ token.number (decimal value) ∷ []

-- the service and the name of the span of the first row
abbrev pub root_members : PlainSheet → List Row → List Token
root_members sheet [] = []
root_members sheet (row ∷ rows) =
    text_member (codes "service") (row_span sheet row).service
    ++ text_member (codes "name") (row_span sheet row).name

-- when the trace began, in nanoseconds since 1970, which stand in a text as in OTLP, and how long it was
abbrev pub time_members : PlainSheet → List Token
time_members sheet =
    text_member (codes "startTimeUnixNano") (decimal sheet.first)
    ++ number_member (codes "durationNano") (sheet.last - sheet.first)

-- how many spans it has, and how many of them failed
abbrev pub count_members : PlainSheet → List Token
count_members sheet =
    number_member (codes "spans") (length sheet.trace.marks) ++ number_member (codes "errors") (errors_in sheet)

-- a trace as a JSON object
abbrev pub summary_members : PlainSheet → List Token
summary_members sheet =
    text_member (codes "traceId") (hex_text 32 sheet.trace.trace_id)
    ++ (root_members sheet sheet.trace.rows ++ (time_members sheet ++ count_members sheet))

abbrev pub summary_line : PlainSheet → List ℕ
summary_line sheet =
    print (token.begin_object ∷ (summary_members sheet ++ token.end_object ∷ [])) ++ codes "\n"

abbrev pub summary_lines : List PlainShownSpan → List PlainTrace → List ℕ
summary_lines spans traces = flat_map (λ trace. summary_line (sheet_of svg_layout spans trace)) traces

-- traces as lines of JSON
abbrev pub summary_text : PlainTraces → List ℕ
summary_text drawn = summary_lines drawn.spans drawn.traces
