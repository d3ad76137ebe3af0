-- A batch of ended spans by names and numbers (opentelemetry-proto 1.7, `trace_service.proto`, `trace.proto`,
-- `resource.proto` and `common.proto`): an `ExportTraceServiceRequest`.
use Rattle.std.specs.Prelude.{ℕ, List, [], ◌∷◌, None, codes}
use Rattle.std.specs.FinMap.{entries}
use Rattle.std.specs.List.{flat_map}
use Rattle.opentelemetry.specs.Plain.{PlainScope}
use Rattle.otel_resource.specs.Resource.{PlainResource}
use Rattle.otel_export.specs.PlainSpanData.{PlainSpanData}
use Rattle.otel_lines.specs.Form.{Form}
use Rattle.otel_otlp.specs.Otlp.{or_empty}
use Rattle.otel_otlp.specs.ScopeRuns.{run_scope, scope_runs}
use Rattle.otel_otlp_protobuf.specs.NamedSpan.{span_members}
use Rattle.otel_otlp_protobuf.specs.NamedValues.{attribute_members, many, pair_members}
use Rattle.otel_otlp_protobuf.specs.Said.{Member, members_of, message, message_fields, number, text}
use Rattle.otel_protobuf.specs.Wire.{after_length, message_bytes}

-- `InstrumentationScope`
abbrev pub scope_members : PlainScope → List Member
scope_members scope =
    (codes "name", 1, text scope.name)
    ∷ (codes "version", 2, text (or_empty scope.version))
    ∷ (codes "attributes", 3, many attribute_members scope.attributes)
    ∷ (codes "droppedAttributesCount", 4, number 0) ∷ []

-- `ScopeSpans`: the spans of one scope
abbrev pub scope_spans_members : PlainScope → List PlainSpanData → List Member
scope_spans_members scope spans =
    (codes "scope", 1, message (members_of (scope_members scope)))
    ∷ (codes "spans", 2, many span_members spans)
    ∷ (codes "schemaUrl", 3, text (or_empty scope.schema_url)) ∷ []

abbrev pub run_members : List PlainSpanData → List Member
run_members run = scope_spans_members (run_scope run) run

-- `Resource`: attributes in the order of their keys, each once
abbrev pub resource_members : PlainResource → List Member
resource_members resource =
    (codes "attributes", 1, many pair_members (entries resource.attributes))
    ∷ (codes "droppedAttributesCount", 2, number 0) ∷ []

-- `ResourceSpans`: the spans of one resource
abbrev pub resource_spans_members : PlainResource → List PlainSpanData → List Member
resource_spans_members resource batch =
    (codes "resource", 1, message (members_of (resource_members resource)))
    ∷ (codes "scopeSpans", 2, many run_members (scope_runs batch))
    ∷ (codes "schemaUrl", 3, text resource.schema_url) ∷ []

-- `ExportTraceServiceRequest`: the request of a batch, which is of one resource
abbrev pub request_members : PlainResource → List PlainSpanData → List Member
request_members resource batch =
    (codes "resourceSpans", 1, many (resource_spans_members resource) (batch ∷ [])) ∷ []

-- the bytes of the request
abbrev pub request_bytes : PlainResource → List PlainSpanData → List ℕ
request_bytes resource batch = message_bytes (message_fields (request_members resource batch))

-- the same after how many they are
abbrev pub delimited_bytes : PlainResource → List PlainSpanData → List ℕ
delimited_bytes resource batch = after_length (request_bytes resource batch)

-- the requests of batches, as a file holds them one after the other
abbrev pub delimited_requests : PlainResource → List (List PlainSpanData) → List ℕ
delimited_requests resource batches = flat_map (delimited_bytes resource) batches

-- the form of such requests: none can follow one that was cut off
abbrev pub otlp_delimited : Form
otlp_delimited = record { bytes = delimited_bytes; line_end = None }
