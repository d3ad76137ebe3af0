-- The text of a request has no line feed: each byte below a space is escaped, and a number is written in digits.
use Rattle.std.proofs.Common.{◌≡◌, ◌≢◌, ◌/◌, ◌%◌, ℕ, ℤ, Bool, true, false, List, [], ◌∷◌, ◌++◌, arith, codes, map}
use Rattle.std.proofs.Common.{nat_lt}
use Rattle.std.specs.Char.{digit_char}
use Rattle.std.specs.FinMap.{entries}
use Rattle.std.specs.Float.{Float}
use Rattle.std.specs.Float.Ieee.{nan, inf, fin}
use Rattle.std.specs.List.{AllByRecursion}
use Rattle.std.proofs.lemmas.Bool.Decides.{nat_tests}
use Rattle.json.specs.Json.{Json, array}
use Rattle.json.specs.Print.{ends, escape, escape_byte, escape_letter, print_from, quoted, separator, token_text}
use Rattle.json.specs.Token.{Token}
use Rattle.json.specs.Tree.{items_tokens, json_tokens, members_tokens}
use Rattle.opentelemetry.specs.Plain.{PlainEvent, PlainKeyValue, PlainLink, PlainScope, PlainStatus, PlainValue}
use Rattle.opentelemetry.specs.Plain.{boolean, integer, text, booleans, integers, texts, double, doubles}
use Rattle.otel_resource.specs.Resource.{PlainResource}
use Rattle.otel_export.specs.PlainSpanData.{PlainSpanData}
use Rattle.otel_otlp.specs.Fields.{Field, items_of, list_json, members_of, object_json}
use Rattle.otel_otlp.specs.OtlpSpan.{code_number, event_fields, event_json, events_fields, flags_of, identity_fields}
use Rattle.otel_otlp.specs.Otlp.{otlp_text}
use Rattle.otel_otlp.specs.OtlpSpan.{kind_number, link_fields, link_json, links_fields, recording_fields}
use Rattle.otel_otlp.specs.Otlp.{request, resource_fields, resource_json, resource_spans_fields, resource_spans_json}
use Rattle.otel_otlp.specs.Otlp.{run_fields, run_json, scope_fields, scope_json}
use Rattle.otel_otlp.specs.OtlpSpan.{span_fields, span_json, status_fields}
use Rattle.otel_otlp.specs.OtlpSpan.{status_json}
use Rattle.otel_otlp.specs.OtlpValues.{attribute_json, attributes_fields, bool_json, double_json, integer_json}
use Rattle.otel_otlp.specs.OtlpValues.{number_field, pair_fields, pair_json, single, text_json, value_json}
use Rattle.otel_otlp.specs.ScopeRuns.{run_scope, scope_runs}
use Rattle.otel_otlp.proofs.Fitting.{all_joined}
use Rattle.otel_otlp.proofs.NoFeed.{NoFeed, NotFeed, decimal_no_feed, either, float_no_feed}

-- what stands for a byte in a string
digit : (d : ℕ) → digit_char d ≢ 10
digit d = grind (arith, nat_tests)

letter : (x : ℕ) → escape_letter x ≢ 10
letter x = grind (arith, nat_tests)

plain : (x : ℕ) → nat_lt x 32 ≡ false → x ≢ 10
plain x h = grind (arith, nat_tests)

escaped : (x : ℕ) → NoFeed (escape_byte x)
unfolding escape_byte
escaped x =
    either (nat_lt 0 (escape_letter x)) _ _ (λ e. ((λ z. omega arith), (letter x, tt)))
    (λ e. either (nat_lt x 32) _ _
    (λ f. (
      (λ z. omega arith),
      (
        (λ z. omega arith),
        (
          (λ z. omega arith),
          (
            (λ z. omega arith),
            (digit (x / 16), (digit (x % 16), tt)),
          ),
        ),
      ),
    ))
    (λ f. (plain x f, tt)))

all_escaped : (bytes : List ℕ) → NoFeed (escape bytes)
all_escaped [] = tt
all_escaped (b ∷ bytes) = all_joined NotFeed (escape_byte b) (escape bytes) (escaped b) (all_escaped bytes)

quoted_no_feed : (bytes : List ℕ) → NoFeed (quoted bytes)
quoted_no_feed bytes =
    ((λ z. omega arith), all_joined NotFeed (escape bytes) (34 ∷ []) (all_escaped bytes) ((λ z. omega arith), tt))

-- a token whose number, if it is one, has no line feed
abbrev Unbroken : Token → Type 0
Unbroken (Token.number digits) = NoFeed digits
Unbroken _ = Unit {0}

abbrev AreUnbroken : List Token → Type 0
AreUnbroken tokens = AllByRecursion Unbroken tokens

token_no_feed : (t : Token) → Unbroken t → NoFeed (token_text t)
token_no_feed Token.begin_object h = ((λ z. omega arith), tt)
token_no_feed Token.end_object h = ((λ z. omega arith), tt)
token_no_feed Token.begin_array h = ((λ z. omega arith), tt)
token_no_feed Token.end_array h = ((λ z. omega arith), tt)
token_no_feed (Token.key s) h = all_joined NotFeed (quoted s) (58 ∷ []) (quoted_no_feed s) ((λ z. omega arith), tt)
token_no_feed (Token.string s) h = quoted_no_feed s
token_no_feed (Token.number s) h = h
token_no_feed (Token.boolean true) h =
    ((λ z. omega arith), ((λ z. omega arith), ((λ z. omega arith), ((λ z. omega arith), tt))))
token_no_feed (Token.boolean false) h =
    ((λ z. omega arith), ((λ z. omega arith), ((λ z. omega arith), ((λ z. omega arith), ((λ z. omega arith), tt)))))
token_no_feed Token.null h =
    ((λ z. omega arith), ((λ z. omega arith), ((λ z. omega arith), ((λ z. omega arith), tt))))
token_no_feed Token.bad h = tt

print_no_feed : (after : Bool) (ts : List Token) → AreUnbroken ts → NoFeed (print_from after ts)
unfolding print_from
print_no_feed after [] h = tt
print_no_feed after (t ∷ ts) h =
    all_joined NotFeed (separator after t) _ (either _ (44 ∷ []) [] (λ e. ((λ z. omega arith), tt)) (λ e. tt))
    (all_joined NotFeed (token_text t) _ (token_no_feed t h.0) (print_no_feed (ends t) ts h.1))

-- tokens, piece by piece
abbrev UnbrokenJson : Json → Type 0
UnbrokenJson json = AreUnbroken (json_tokens json)

abbrev UnbrokenField : Field → Type 0
UnbrokenField field = UnbrokenJson field.1

abbrev UnbrokenFields : List Field → Type 0
UnbrokenFields fields = AllByRecursion UnbrokenField fields

members_unbroken : (fields : List Field) → UnbrokenFields fields → AreUnbroken (members_tokens (members_of fields))
members_unbroken [] h = (tt, tt)
members_unbroken (f ∷ fields) h =
    (tt, all_joined Unbroken (json_tokens f.1) (members_tokens (members_of fields)) h.0 (members_unbroken fields h.1))

object_unbroken : (fields : List Field) → UnbrokenFields fields → UnbrokenJson (object_json fields)
object_unbroken fields h = (tt, members_unbroken fields h)

items_unbroken : {X : Type 0} (json : X → Json) → ((x : X) → UnbrokenJson (json x)) → (xs : List X)
    → AreUnbroken (items_tokens (items_of (map json xs)))
items_unbroken json h [] = (tt, tt)
items_unbroken json h (x ∷ xs) =
    all_joined Unbroken (json_tokens (json x)) (items_tokens (items_of (map json xs))) (h x) (items_unbroken json h xs)

list_unbroken : {X : Type 0} (json : X → Json) → ((x : X) → UnbrokenJson (json x)) → (xs : List X)
    → UnbrokenJson (list_json json xs)
list_unbroken json h xs = (tt, items_unbroken json h xs)

-- the values of a request
single_unbroken : (key : List ℕ) (value : Json) → UnbrokenJson value → UnbrokenJson (single key value)
single_unbroken key value h = object_unbroken ((key, value) ∷ []) (h, tt)

array_unbroken : (items : List Json) → AreUnbroken (items_tokens (items_of items))
    → UnbrokenJson (single (codes "arrayValue") (single (codes "values") (array (items_of items))))
array_unbroken items h =
    single_unbroken (codes "arrayValue") (single (codes "values") (array (items_of items)))
    (single_unbroken (codes "values") (array (items_of items)) (tt, h))

bool_unbroken : (truth : Bool) → UnbrokenJson (bool_json truth)
bool_unbroken truth = (tt, (tt, (tt, (tt, tt))))

integer_unbroken : (number : ℤ) → UnbrokenJson (integer_json number)
integer_unbroken number = (tt, (tt, (tt, (tt, tt))))

text_unbroken : (bytes : List ℕ) → UnbrokenJson (text_json bytes)
text_unbroken bytes = (tt, (tt, (tt, (tt, tt))))

float_unbroken : (x : Float) → UnbrokenJson (double_json x)
float_unbroken nan = (tt, (tt, (tt, (tt, tt))))
float_unbroken (inf true) = (tt, (tt, (tt, (tt, tt))))
float_unbroken (inf false) = (tt, (tt, (tt, (tt, tt))))
float_unbroken (fin s m e) = (tt, (tt, (float_no_feed (fin s m e), (tt, tt))))

value_unbroken : (v : PlainValue) → UnbrokenJson (value_json v)
value_unbroken (boolean b) = bool_unbroken b
value_unbroken (integer n) = integer_unbroken n
value_unbroken (text bs) = text_unbroken bs
value_unbroken (booleans bs) = array_unbroken (map bool_json bs) (items_unbroken bool_json bool_unbroken bs)
value_unbroken (integers ns) = array_unbroken (map integer_json ns) (items_unbroken integer_json integer_unbroken ns)
value_unbroken (texts ts) = array_unbroken (map text_json ts) (items_unbroken text_json text_unbroken ts)
value_unbroken (double x) = float_unbroken x
value_unbroken (doubles xs) = array_unbroken (map double_json xs) (items_unbroken double_json float_unbroken xs)

pair_unbroken : (p : List ℕ × PlainValue) → UnbrokenJson (pair_json p)
pair_unbroken p = object_unbroken (pair_fields p) ((tt, tt), (value_unbroken p.1, tt))

number_unbroken : (key : List ℕ) (n : ℕ) → UnbrokenFields (number_field key n ∷ [])
number_unbroken key n = ((decimal_no_feed n, tt), tt)

attributes_unbroken : (attributes : List PlainKeyValue) (dropped : ℕ)
    → UnbrokenFields (attributes_fields attributes dropped)
attributes_unbroken attributes dropped =
    let list = list_unbroken attribute_json (λ a. pair_unbroken (a.key, a.value)) attributes in
    (list, ((decimal_no_feed dropped, tt), tt))

event_unbroken : (event : PlainEvent) → UnbrokenJson (event_json event)
event_unbroken event =
    object_unbroken (event_fields event)
    ((tt, tt), ((tt, tt), attributes_unbroken event.attributes event.dropped_attributes_count))

link_unbroken : (link : PlainLink) → UnbrokenJson (link_json link)
link_unbroken link =
    let flags = flags_of link.span_context.trace_flags link.span_context.is_remote in
    let attributes = attributes_fields link.attributes link.dropped_attributes_count in
    let flagged = number_field (codes "flags") flags ∷ [] in
    let later =
    all_joined UnbrokenField attributes flagged
    (attributes_unbroken link.attributes link.dropped_attributes_count) (number_unbroken (codes "flags") flags) in
    object_unbroken (link_fields link) ((tt, tt), ((tt, tt), ((tt, tt), later)))

status_unbroken : (status : PlainStatus) → UnbrokenJson (status_json status)
status_unbroken status =
    object_unbroken (status_fields status) ((tt, tt), number_unbroken (codes "code") (code_number status))

recording_unbroken : (span : PlainSpanData) → UnbrokenFields (recording_fields span)
recording_unbroken span =
    let attributes = attributes_fields span.attributes span.dropped_attributes_count in
    let events = events_fields span.events in
    let links = links_fields span.links in
    let status : List Field = (codes "status", status_json span.status) ∷ [] in
    all_joined UnbrokenField attributes (events ++ (links ++ status))
    (attributes_unbroken span.attributes span.dropped_attributes_count) (
      list_unbroken event_json event_unbroken span.events.events,
      (
        (decimal_no_feed span.events.dropped_count, tt),
        (
          list_unbroken link_json link_unbroken span.links.links,
          (
            (decimal_no_feed span.links.dropped_count, tt),
            (status_unbroken span.status, tt),
          ),
        ),
      ),
    )

identity_unbroken : (span : PlainSpanData) → UnbrokenFields (identity_fields span)
identity_unbroken span =
    let flags = flags_of span.span_context.trace_flags span.parent_span_is_remote in (
      (tt, tt),
      (
        (tt, tt),
        (
          (tt, tt),
          (
            (tt, tt),
            (
              (decimal_no_feed flags, tt),
              (
                (tt, tt),
                ((decimal_no_feed (kind_number span.span_kind), tt), ((tt, tt), ((tt, tt), tt))),
              ),
            ),
          ),
        ),
      ),
    )

span_unbroken : (span : PlainSpanData) → UnbrokenJson (span_json span)
span_unbroken span =
    object_unbroken (span_fields span) (all_joined UnbrokenField (identity_fields span) (recording_fields span)
    (identity_unbroken span) (recording_unbroken span))

scope_unbroken : (scope : PlainScope) → UnbrokenJson (scope_json scope)
scope_unbroken scope =
    object_unbroken (scope_fields scope) ((tt, tt), ((tt, tt), attributes_unbroken scope.attributes 0))

run_unbroken : (run : List PlainSpanData) → UnbrokenJson (run_json run)
run_unbroken run =
    object_unbroken (run_fields run)
    (scope_unbroken (run_scope run), (list_unbroken span_json span_unbroken run, ((tt, tt), tt)))

resource_unbroken : (resource : PlainResource) → UnbrokenJson (resource_json resource)
resource_unbroken resource =
    object_unbroken (resource_fields resource) (
      list_unbroken pair_json pair_unbroken (entries resource.attributes),
      number_unbroken (codes "droppedAttributesCount") 0,
    )

resource_spans_unbroken : (resource : PlainResource) (batch : List PlainSpanData)
    → UnbrokenJson (resource_spans_json resource batch)
resource_spans_unbroken resource batch =
    object_unbroken (resource_spans_fields resource batch)
    (resource_unbroken resource, (list_unbroken run_json run_unbroken (scope_runs batch), ((tt, tt), tt)))

request_unbroken : (resource : PlainResource) (batch : List PlainSpanData) → UnbrokenJson (request resource batch)
request_unbroken resource batch =
    let json = resource_spans_json resource in
    single_unbroken (codes "resourceSpans") (list_json json (batch ∷ []))
    (list_unbroken json (resource_spans_unbroken resource) (batch ∷ []))

pub text_no_feed : (resource : PlainResource) (batch : List PlainSpanData) → NoFeed (otlp_text resource batch)
text_no_feed resource batch =
    print_no_feed false (json_tokens (request resource batch)) (request_unbroken resource batch)
