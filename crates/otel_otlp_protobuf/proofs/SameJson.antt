-- What a request says, printed as JSON, is the request that JSON's writer has.
use Rattle.std.proofs.Common.{◌≡◌, ℕ, List, [], ◌∷◌, ap, codes, refl, ◌∙◌, map}
use Rattle.std.specs.FinMap.{entries}
use Rattle.json.specs.Json as json
use Rattle.opentelemetry.specs.Plain.{PlainEvent, PlainKeyValue, PlainLink, PlainScope}
use Rattle.opentelemetry.specs.Plain.{PlainValue, boolean, integer, text, booleans, integers, texts, double, doubles}
use Rattle.otel_resource.specs.Resource.{PlainResource}
use Rattle.otel_export.specs.PlainSpanData.{PlainSpanData}
use Rattle.otel_otlp.specs.Fields as fields
use Rattle.otel_otlp.specs.Otlp.{request, resource_json, resource_spans_json, run_json, scope_json}
use Rattle.otel_otlp.specs.OtlpSpan.{event_json, link_json, span_json}
use Rattle.otel_otlp.specs.OtlpValues.{attribute_json, bool_json, double_json, integer_json, pair_json, text_json}
use Rattle.otel_otlp.specs.OtlpValues.{value_json}
use Rattle.otel_otlp.specs.ScopeRuns.{run_scope, scope_runs}
use Rattle.otel_otlp_protobuf.specs.NamedRequest.{request_members, resource_members, resource_spans_members, run_members}
use Rattle.otel_otlp_protobuf.specs.NamedRequest.{scope_members}
use Rattle.otel_otlp_protobuf.specs.NamedSpan.{event_members, link_members, span_members}
use Rattle.otel_otlp_protobuf.specs.NamedValues.{attribute_members, float_members, integer_members, pair_members}
use Rattle.otel_otlp_protobuf.specs.NamedValues.{text_members, truth_members, value_members}
use Rattle.otel_otlp_protobuf.specs.Said.{Member, items_json, items_of, object_json}

-- lists of messages, where each of them is so
items_same : {X : Type 0} (members : X → List Member) (form : X → json.Json)
    → ((x : X) → object_json (members x) ≡ form x) → (xs : List X)
    → items_json (items_of (map members xs)) ≡ fields.items_of (map form xs)
items_same members form same [] = refl
items_same members form same (x ∷ xs) =
    ap (λ j. json.item j (items_json (items_of (map members xs)))) (same x)
    ∙ ap (json.item (form x)) (items_same members form same xs)

value_same : (value : PlainValue) → object_json (value_members value) ≡ value_json value
value_same (boolean truth) = refl
value_same (integer number) = refl
value_same (text bytes) = refl
value_same (booleans truths) = rw (items_same truth_members bool_json (λ truth. refl) truths) refl
value_same (integers numbers) = rw (items_same integer_members integer_json (λ number. refl) numbers) refl
value_same (texts many) = rw (items_same text_members text_json (λ bytes. refl) many) refl
value_same (double x) = refl
value_same (doubles xs) = rw (items_same float_members double_json (λ x. refl) xs) refl

pair_same : (pair : List ℕ × PlainValue) → object_json (pair_members pair) ≡ pair_json pair
pair_same pair = ap (λ j. json.object (json.member (codes "key") (json.string pair.0) (json.member (codes "value") j json.no_members))) (value_same pair.1)

attribute_same : (attribute : PlainKeyValue) → object_json (attribute_members attribute) ≡ attribute_json attribute
attribute_same attribute = pair_same (attribute.key, attribute.value)

attributes_same : (attributes : List PlainKeyValue)
    → items_json (items_of (map attribute_members attributes)) ≡ fields.items_of (map attribute_json attributes)
attributes_same = items_same attribute_members attribute_json attribute_same

event_same : (event : PlainEvent) → object_json (event_members event) ≡ event_json event
event_same event = rw (attributes_same event.attributes) refl

link_same : (link : PlainLink) → object_json (link_members link) ≡ link_json link
link_same link = rw (attributes_same link.attributes) refl

span_same : (span : PlainSpanData) → object_json (span_members span) ≡ span_json span
span_same span =
    rw (
      attributes_same span.attributes,
      items_same event_members event_json event_same span.events.events,
      items_same link_members link_json link_same span.links.links,
    ) refl

scope_same : (scope : PlainScope) → object_json (scope_members scope) ≡ scope_json scope
scope_same scope = rw (attributes_same scope.attributes) refl

run_same : (run : List PlainSpanData) → object_json (run_members run) ≡ run_json run
run_same run =
    rw (attributes_same (run_scope run).attributes, items_same span_members span_json span_same run) refl

resource_same : (resource : PlainResource) → object_json (resource_members resource) ≡ resource_json resource
resource_same resource = rw (items_same pair_members pair_json pair_same (entries resource.attributes)) refl

resource_spans_same : (resource : PlainResource) (batch : List PlainSpanData)
    → object_json (resource_spans_members resource batch) ≡ resource_spans_json resource batch
resource_spans_same resource batch =
    rw (
      items_same pair_members pair_json pair_same (entries resource.attributes),
      items_same run_members run_json run_same (scope_runs batch),
    ) refl

pub request_same : (resource : PlainResource) (batch : List PlainSpanData)
    → object_json (request_members resource batch) ≡ request resource batch
request_same resource batch = rw (resource_spans_same resource batch) refl
