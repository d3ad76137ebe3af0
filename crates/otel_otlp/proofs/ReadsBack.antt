-- The text of a request nests no deeper than a reader reads, and so is read back.
use Rattle.std.proofs.Common.{◌≡◌, ◌≤◌, ℕ, suc, true, false, List, [], ◌∷◌, Some, option_and_then, ap, sym, ◌∙◌}
use Rattle.std.proofs.Common.{append-nil, arith}
use Rattle.std.proofs.lemmas.List.{append_cancel_right}
use Rattle.std.specs.FinMap.{entries}
use Rattle.std.specs.Float.Ieee.{Float, nan, inf, fin}
use Rattle.std.specs.List.{AllByRecursion}
use Rattle.json.specs.Json.{Json, document, if_last, max_depth, value}
use Rattle.json.specs.Lex.{tokens}
use Rattle.json.specs.Print.{print}
use Rattle.json.specs.Tree.{depth, json_tokens}
use Rattle.json.proofs.Printed.Trees.{document-print, value-json_tokens}
use Rattle.opentelemetry.specs.Plain.{PlainEvent, PlainKeyValue, PlainLink}
use Rattle.opentelemetry.specs.Plain.{PlainValue, boolean, integer, text, booleans, integers, texts, double, doubles}
use Rattle.otel_resource.specs.Resource.{PlainResource}
use Rattle.otel_export.specs.PlainSpanData.{PlainSpanData}
use Rattle.otel_otlp.specs.Fields.{list_json}
use Rattle.otel_otlp.specs.Fits.{ResourceFits, SpanFits}
use Rattle.otel_otlp.specs.Otlp.{otlp_line, otlp_text, request, run_json}
use Rattle.otel_otlp.specs.OtlpSpan.{event_json, link_json, span_json}
use Rattle.otel_otlp.specs.OtlpValues.{attribute_json, bool_json, double_json, integer_json, pair_json, text_json}
use Rattle.otel_otlp.specs.OtlpValues.{value_json}
use Rattle.otel_otlp.specs.ScopeRuns.{run_scope, scope_runs}
use Rattle.otel_otlp.proofs.Numbers.{request_has}

-- a list nests one deeper than its items may
list_within : {X : Type 0} (json : X → Json) (xs : List X) (d : ℕ) → ((x : X) → depth (json x) ≤ d)
    → depth (list_json json xs) ≤ suc d
list_within json [] d h = omega arith
list_within json (x ∷ xs) d h = omega (arith, h x, list_within json xs d h)

float_within : (x : Float) → depth (double_json x) ≤ 1
float_within nan = omega arith
float_within (inf true) = omega arith
float_within (inf false) = omega arith
float_within (fin s m e) = omega arith

value_within : (v : PlainValue) → depth (value_json v) ≤ 4
value_within (boolean b) = omega arith
value_within (integer n) = omega arith
value_within (text bs) = omega arith
value_within (booleans bs) = omega (arith, list_within bool_json bs 1 (λ b. omega arith))
value_within (integers ns) = omega (arith, list_within integer_json ns 1 (λ n. omega arith))
value_within (texts ts) = omega (arith, list_within text_json ts 1 (λ t. omega arith))
value_within (double x) = omega (arith, float_within x)
value_within (doubles xs) = omega (arith, list_within double_json xs 1 float_within)

pair_within : (p : List ℕ × PlainValue) → depth (pair_json p) ≤ 5
pair_within p = omega (arith, value_within p.1)

attributes_within : (attributes : List PlainKeyValue) → depth (list_json attribute_json attributes) ≤ 6
attributes_within attributes = list_within attribute_json attributes 5 (λ a. pair_within (a.key, a.value))

event_within : (e : PlainEvent) → depth (event_json e) ≤ 7
event_within e = omega (arith, attributes_within e.attributes)

link_within : (l : PlainLink) → depth (link_json l) ≤ 7
link_within l = omega (arith, attributes_within l.attributes)

span_within : (s : PlainSpanData) → depth (span_json s) ≤ 9
span_within s =
    omega (
      arith,
      attributes_within s.attributes,
      list_within event_json s.events.events 7 event_within,
      list_within link_json s.links.links 7 link_within,
    )

run_within : (run : List PlainSpanData) → depth (run_json run) ≤ 11
run_within run =
    omega (arith, attributes_within (run_scope run).attributes, list_within span_json run 9 span_within)

request_within : (resource : PlainResource) (batch : List PlainSpanData) → depth (request resource batch) ≤ max_depth
request_within resource batch =
    omega (
      arith,
      list_within pair_json (entries resource.attributes) 5 pair_within,
      list_within run_json (scope_runs batch) 11 run_within,
    )

-- a text with the tokens of a value that a reader reads is that value
reads_value : (json : Json) → tokens (print (json_tokens json)) ≡ json_tokens json → depth json ≤ max_depth
    → document (print (json_tokens json)) ≡ Some json
reads_value json lexed shallow =
    ap (option_and_then (λ p. if_last p.0 p.1))
    (ap (value max_depth) (lexed ∙ sym (append-nil (json_tokens json)))
    ∙ value-json_tokens json max_depth [] shallow)

pub reads_request : (resource : PlainResource) (batch : List PlainSpanData)
    → tokens (print (json_tokens (request resource batch))) ≡ json_tokens (request resource batch)
    → document (print (json_tokens (request resource batch))) ≡ Some (request resource batch)
reads_request resource batch lexed = reads_value (request resource batch) lexed (request_within resource batch)

pub request_reads_back : (resource : PlainResource) (batch : List PlainSpanData) → ResourceFits resource
    → AllByRecursion SpanFits batch → document (otlp_text resource batch) ≡ Some (request resource batch)
request_reads_back resource batch fits h =
    document-print (request resource batch) (request_has resource batch fits h) (request_within resource batch)

-- a line is of one request
pub lines_same : (r s : PlainResource) (a b : List PlainSpanData) → ResourceFits r → ResourceFits s
    → AllByRecursion SpanFits a → AllByRecursion SpanFits b → otlp_line r a ≡ otlp_line s b → request r a ≡ request s b
lines_same r s a b fits others h k e =
    let texts = append_cancel_right (otlp_text r a) (otlp_text s b) (10 ∷ []) e in
    let read : Some (request r a) ≡ Some (request s b) =
    sym (request_reads_back r a fits h) ∙ ap document texts ∙ request_reads_back s b others k in
    cc
