-- A batch of ended spans as the OpenTelemetry protocol writes it in JSON (OTLP 1.7, "JSON Protobuf Encoding"): an
-- `ExportTraceServiceRequest`, whose members stand in this order, also those with their default.
use Rattle.std.specs.Prelude.{ℕ, List, [], ◌∷◌, ◌++◌, Option, Some, None, codes}
use Rattle.std.specs.List.{flat_map}
use Rattle.std.specs.FinMap.{entries}
use Rattle.json.specs.Json.{Json}
use Rattle.json.specs.Print.{print}
use Rattle.json.specs.Tree.{json_tokens}
use Rattle.opentelemetry.specs.Plain.{PlainScope}
use Rattle.otel_resource.specs.Resource.{PlainResource}
use Rattle.otel_export.specs.PlainSpanData.{PlainSpanData}
use Rattle.otel_lines.specs.Form.{Form}
use Rattle.otel_otlp.specs.Fields.{Field, list_json, object_json}
use Rattle.otel_otlp.specs.OtlpSpan.{span_json}
use Rattle.otel_otlp.specs.OtlpValues.{attributes_fields, number_field, pair_json, single, text_field}
use Rattle.otel_otlp.specs.ScopeRuns.{run_scope, scope_runs}

-- a text that may be left out
abbrev pub or_empty : Option (List ℕ) → List ℕ
or_empty None = []
or_empty (Some bytes) = bytes

abbrev pub scope_fields : PlainScope → List Field
scope_fields scope =
    text_field (codes "name") scope.name ∷ text_field (codes "version") (or_empty scope.version)
    ∷ attributes_fields scope.attributes 0

abbrev pub scope_json : PlainScope → Json
scope_json scope = object_json (scope_fields scope)

-- the spans of one scope
abbrev pub run_fields : List PlainSpanData → List Field
run_fields run =
    (codes "scope", scope_json (run_scope run)) ∷ (codes "spans", list_json span_json run)
    ∷ text_field (codes "schemaUrl") (or_empty (run_scope run).schema_url) ∷ []

abbrev pub run_json : List PlainSpanData → Json
run_json run = object_json (run_fields run)

-- attributes in the order of their keys, each once
abbrev pub resource_fields : PlainResource → List Field
resource_fields resource =
    (codes "attributes", list_json pair_json (entries resource.attributes))
    ∷ number_field (codes "droppedAttributesCount") 0 ∷ []

abbrev pub resource_json : PlainResource → Json
resource_json resource = object_json (resource_fields resource)

-- the spans of one resource
abbrev pub resource_spans_fields : PlainResource → List PlainSpanData → List Field
resource_spans_fields resource batch =
    (codes "resource", resource_json resource) ∷ (codes "scopeSpans", list_json run_json (scope_runs batch))
    ∷ text_field (codes "schemaUrl") resource.schema_url ∷ []

abbrev pub resource_spans_json : PlainResource → List PlainSpanData → Json
resource_spans_json resource batch = object_json (resource_spans_fields resource batch)

-- the request of a batch, which is of one resource
abbrev pub request : PlainResource → List PlainSpanData → Json
request resource batch =
    single (codes "resourceSpans") (list_json (resource_spans_json resource) (batch ∷ []))

-- the text of a batch, which is the print of its request, and its line
abbrev pub otlp_text : PlainResource → List PlainSpanData → List ℕ
otlp_text resource batch = print (json_tokens (request resource batch))

abbrev pub otlp_line : PlainResource → List PlainSpanData → List ℕ
otlp_line resource batch = otlp_text resource batch ++ 10 ∷ []

-- the lines of batches, in order
abbrev pub otlp_lines : PlainResource → List (List PlainSpanData) → List ℕ
otlp_lines resource batches = flat_map (otlp_line resource) batches

-- the form of these lines
abbrev pub otlp_json : Form
otlp_json = record { bytes = otlp_line; line_end = Some 10 }
