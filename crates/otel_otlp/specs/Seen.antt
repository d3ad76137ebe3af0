-- What the JSON of a batch tells of it. Three things have no word there: whether a span's own context is remote, of
-- which kind an empty list of values is, and whether a version or a schema of a scope is empty or not given.
use Rattle.std.specs.Prelude.{◌≡◌, ℕ, false, List, [], ◌∷◌, Some, map}
use Rattle.std.specs.FinMap.{entries}
use Rattle.opentelemetry.specs.Plain.{PlainEvent, PlainKeyValue, PlainLink, PlainScope}
use Rattle.opentelemetry.specs.Plain.{PlainValue, boolean, integer, text, booleans, integers, texts, double, doubles}
use Rattle.otel_resource.specs.Resource.{PlainResource}
use Rattle.otel_export.specs.PlainSpanData.{PlainSpanData}
use Rattle.otel_otlp.specs.Otlp.{or_empty}

-- a value; each empty list stands as one of truths
abbrev pub seen_value : PlainValue → PlainValue
seen_value (boolean truth) = boolean truth
seen_value (integer number) = integer number
seen_value (text bytes) = text bytes
seen_value (booleans truths) = booleans truths
seen_value (integers []) = booleans []
seen_value (integers (number ∷ numbers)) = integers (number ∷ numbers)
seen_value (texts []) = booleans []
seen_value (texts (bytes ∷ many)) = texts (bytes ∷ many)
seen_value (double x) = double x
seen_value (doubles []) = booleans []
seen_value (doubles (x ∷ xs)) = doubles (x ∷ xs)

-- an attribute, by its value
abbrev pub seen_attribute : PlainKeyValue → PlainKeyValue
seen_attribute attribute = record attribute { value = seen_value attribute.value }

-- a key and its value
abbrev pub seen_pair : List ℕ × PlainValue → List ℕ × PlainValue
seen_pair pair = (pair.0, seen_value pair.1)

-- an event, by its attributes
abbrev pub seen_event : PlainEvent → PlainEvent
seen_event event = record event { attributes = map seen_attribute event.attributes }

-- a link; its context stands as it is
abbrev pub seen_link : PlainLink → PlainLink
seen_link link = record link { attributes = map seen_attribute link.attributes }

-- a scope; a version or a schema that is not given stands as an empty one
abbrev pub seen_scope : PlainScope → PlainScope
seen_scope scope = record {
  name = scope.name;
  version = Some (or_empty scope.version);
  schema_url = Some (or_empty scope.schema_url);
  attributes = map seen_attribute scope.attributes;
}

-- a span; its own context stands as one that is not remote
abbrev pub seen_span : PlainSpanData → PlainSpanData
seen_span span = record span {
  span_context = record (span.span_context) { is_remote = false };
  attributes = map seen_attribute span.attributes;
  events = record (span.events) { events = map seen_event span.events.events };
  links = record (span.links) { links = map seen_link span.links.links };
  instrumentation_scope = seen_scope span.instrumentation_scope;
}

-- a resource: its attributes in the order of their keys, and its schema
abbrev pub seen_resource : PlainResource → List (List ℕ × PlainValue) × List ℕ
seen_resource resource = (map seen_pair (entries resource.attributes), resource.schema_url)

-- two batches and their resources are seen alike
abbrev pub AreSeenAlike : PlainResource → PlainResource → List PlainSpanData → List PlainSpanData → Type 0
AreSeenAlike these those batch other =
    (seen_resource these ≡ seen_resource those) × (map seen_span batch ≡ map seen_span other)
