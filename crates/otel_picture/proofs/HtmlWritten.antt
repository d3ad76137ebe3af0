-- The data of the HTML form are written as the value that they are, and nest no deeper than a reader reads.
use Rattle.std.proofs.Common.{◌≡◌, ◌≤◌, ◌∙◌, ℕ, List, [], ◌∷◌, ◌++◌, Some, ap, ap₂, append-nil, append_assoc, arith}
use Rattle.std.proofs.Common.{◌-◌, Bool, true, false, codes, cond, decimal, flat_map, length, option_and_then, refl, sym}
use Rattle.std.specs.Str.{bytes_eq}
use Rattle.json.specs.Json.{Json, Members, array, document, if_last, max_depth, member, no_members, value}
use Rattle.json.specs.Lex.{tokens}
use Rattle.json.specs.Token.{Token}
use Rattle.json.specs.Token as token
use Rattle.json.specs.Tree.{depth, items_depth, items_tokens, json_tokens, members_depth, members_tokens}
use Rattle.json.proofs.Printed.Trees.{value-json_tokens}
use Rattle.opentelemetry.specs.Hex.{hex_text}
use Rattle.otel_shown.specs.Shown.{PlainShownEvent, PlainShownLink, PlainShownSpan}
use Rattle.otel_picture.specs.Drawn.{PlainTraces}
use Rattle.otel_picture.specs.HtmlJson.{event_json, html_json, items_of, link_json, number_then}
use Rattle.otel_picture.specs.HtmlJson.{recorded_json, resource_json, root_then, row_json, rows_json, text_then, trace_json}
use Rattle.otel_picture.specs.HtmlRows.{event_tokens, html_tokens, link_tokens, list_member, name_members}
use Rattle.otel_picture.specs.HtmlRows.{place_members, recorded_members, resource_members, row_tokens, rows_member, rows_tokens}
use Rattle.otel_picture.specs.HtmlRows.{span_time_members}
use Rattle.otel_picture.specs.HtmlRows.{status_members, trace_tokens}
use Rattle.otel_picture.specs.HtmlTexts.{html_data}
use Rattle.otel_picture.specs.Layouts.{svg_layout}
use Rattle.otel_picture.specs.PlainSheets.{PlainSheet, errors_in, row_span, sheet_of}
use Rattle.otel_picture.specs.Summaries.{count_members, root_members, text_member, time_members}
use Rattle.otel_picture.specs.declared.rows.Row.{Row}

-- the bracket after an object
abbrev ended : List Token
ended = token.end_object ∷ []

items_written : {X : Type 0} (json : X → Json) (write : X → List Token) → ((x : X) → json_tokens (json x) ≡ write x)
    → (xs : List X) → items_tokens (items_of json xs) ≡ flat_map write xs ++ token.end_array ∷ []
items_written json write h [] = refl
items_written json write h (x ∷ xs) =
    ap₂ (λ (a b : List Token). a ++ b) (h x) (items_written json write h xs)
    ∙ sym (append_assoc (write x) (flat_map write xs) (token.end_array ∷ []))

event_written : (event : PlainShownEvent) → json_tokens (event_json event) ≡ event_tokens event
event_written event = refl

link_written : (link : PlainShownLink) → json_tokens (link_json link) ≡ link_tokens link
link_written link = refl

-- the attributes of a resource, if they are written
resource_by : (same : Bool) (attributes : List ℕ)
    → members_tokens (cond same no_members (text_then (codes "resource") attributes no_members))
    ≡ cond same [] (text_member (codes "resource") attributes) ++ ended
resource_by true attributes = refl
resource_by false attributes = refl

recorded_written : (before : List ℕ) (span : PlainShownSpan)
    → members_tokens (recorded_json before span) ≡ (recorded_members span ++ resource_members before span) ++ ended
recorded_written before span =
    let events : List Token = list_member (codes "events") event_tokens span.events in
    let links : List Token = list_member (codes "links") link_tokens span.links in
    let resource : List Token = resource_members before span ++ ended in
    ap₂ (λ (a b : List Token). text_member (codes "attributes") span.attributes
    ++ token.key (codes "events") ∷ token.begin_array ∷ (a ++ token.key (codes "links") ∷ token.begin_array
    ∷ (b ++ members_tokens (resource_json before span))))
    (items_written event_json event_tokens event_written span.events)
    (items_written link_json link_tokens link_written span.links)
    ∙ ap (λ (l : List Token). text_member (codes "attributes") span.attributes ++ (events ++ (links ++ l)))
    (resource_by (bytes_eq span.resource before) span.resource)
    ∙ ap (λ (l : List Token). text_member (codes "attributes") span.attributes ++ l)
    (sym (append_assoc events links resource))
    ∙ sym (append_assoc (recorded_members span) (resource_members before span) ended)

row_written : (sheet : PlainSheet) (before : List ℕ) (row : Row)
    → json_tokens (row_json sheet before row) ≡ row_tokens sheet before row
row_written sheet before row =
    let span = row_span sheet row in
    ap (λ (l : List Token). token.begin_object ∷ (place_members row.level span ++ (name_members span
    ++ (span_time_members span ++ (status_members span.status ++ l))))) (recorded_written before span)

rows_written : (sheet : PlainSheet) (before : List ℕ) (rows : List Row)
    → items_tokens (rows_json sheet before rows) ≡ rows_tokens sheet before rows ++ token.end_array ∷ []
rows_written sheet before [] = refl
rows_written sheet before (row ∷ rows) =
    let here = (row_span sheet row).resource in
    ap₂ (λ (a b : List Token). a ++ b) (row_written sheet before row) (rows_written sheet here rows)
    ∙ sym (append_assoc (row_tokens sheet before row) (rows_tokens sheet here rows) (token.end_array ∷ []))

root_written : (sheet : PlainSheet) (rows : List Row) (rest : Members)
    → members_tokens (root_then sheet rows rest) ≡ root_members sheet rows ++ members_tokens rest
root_written sheet [] rest = refl
root_written sheet (row ∷ rows) rest = refl

-- the members of a trace after the name of its root
abbrev after_root : PlainSheet → Members
after_root sheet =
    text_then (codes "startTimeUnixNano") (decimal sheet.first)
    (number_then (codes "durationNano") (sheet.last - sheet.first)
    (number_then (codes "spans") (length sheet.trace.marks) (number_then (codes "errors") (errors_in sheet)
    (member (codes "rows") (array (rows_json sheet [] sheet.trace.rows)) no_members))))

trace_written : (sheet : PlainSheet) → json_tokens (trace_json sheet) ≡ trace_tokens sheet
trace_written sheet =
    let rows = sheet.trace.rows in
    let times : List Token = time_members sheet ++ count_members sheet in
    let listed : List Token = rows_member sheet rows ++ ended in
    ap (λ (l : List Token). token.begin_object
    ∷ (text_member (codes "traceId") (hex_text 32 sheet.trace.trace_id) ++ l))
    (root_written sheet rows (after_root sheet)
    ∙ ap (λ (l : List Token). root_members sheet rows ++ (times ++ token.key (codes "rows") ∷ token.begin_array
    ∷ (l ++ ended))) (rows_written sheet [] rows)
    ∙ sym (append_assoc (root_members sheet rows) times listed))

pub data_written : (drawn : PlainTraces) → json_tokens (html_json drawn) ≡ html_tokens drawn.spans drawn.traces
data_written drawn =
    ap (λ (l : List Token). token.begin_array ∷ l)
    (items_written (λ trace. trace_json (sheet_of svg_layout drawn.spans trace))
    (λ trace. trace_tokens (sheet_of svg_layout drawn.spans trace))
    (λ trace. trace_written (sheet_of svg_layout drawn.spans trace)) drawn.traces)

-- how deep
items_within : {X : Type 0} (json : X → Json) (xs : List X) (d : ℕ) → ((x : X) → depth (json x) ≤ d)
    → items_depth (items_of json xs) ≤ d
items_within json [] d h = omega arith
items_within json (x ∷ xs) d h = omega (arith, h x, items_within json xs d h)

event_within : (event : PlainShownEvent) → depth (event_json event) ≤ 1
event_within event = omega arith

link_within : (link : PlainShownLink) → depth (link_json link) ≤ 1
link_within link = omega arith

resource_within : (same : Bool) (attributes : List ℕ)
    → members_depth (cond same no_members (text_then (codes "resource") attributes no_members)) ≤ 0
resource_within true attributes = omega arith
resource_within false attributes = omega arith

row_within : (sheet : PlainSheet) (before : List ℕ) (row : Row) → depth (row_json sheet before row) ≤ 3
row_within sheet before row =
    let span = row_span sheet row in
    omega (
      arith,
      items_within event_json span.events 1 event_within,
      items_within link_json span.links 1 link_within,
      resource_within (bytes_eq span.resource before) span.resource,
    )

rows_within : (sheet : PlainSheet) (before : List ℕ) (rows : List Row) → items_depth (rows_json sheet before rows) ≤ 3
rows_within sheet before [] = omega arith
rows_within sheet before (row ∷ rows) =
    omega (arith, row_within sheet before row, rows_within sheet (row_span sheet row).resource rows)

root_within : (sheet : PlainSheet) (rows : List Row) (rest : Members)
    → members_depth (root_then sheet rows rest) ≤ members_depth rest
root_within sheet [] rest = omega arith
root_within sheet (row ∷ rows) rest = omega arith

trace_within : (sheet : PlainSheet) → depth (trace_json sheet) ≤ 5
trace_within sheet =
    omega (
      arith,
      root_within sheet sheet.trace.rows (after_root sheet),
      rows_within sheet [] sheet.trace.rows,
    )

data_within : (drawn : PlainTraces) → depth (html_json drawn) ≤ max_depth
data_within drawn =
    omega (
      arith,
      items_within (λ trace. trace_json (sheet_of svg_layout drawn.spans trace)) drawn.traces 5
          (λ trace. trace_within (sheet_of svg_layout drawn.spans trace)),
    )

-- the tokens of the data are those of their value, which a reader reads
pub data_read : (drawn : PlainTraces) → tokens (html_data drawn) ≡ json_tokens (html_json drawn)
    → document (html_data drawn) ≡ Some (html_json drawn)
data_read drawn lexed =
    let json = html_json drawn in
    ap (option_and_then (λ p. if_last p.0 p.1))
    (ap (value max_depth) (lexed ∙ sym (append-nil (json_tokens json)))
    ∙ value-json_tokens json max_depth [] (data_within drawn))
