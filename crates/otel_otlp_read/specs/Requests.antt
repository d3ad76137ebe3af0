-- The spans of an `ExportTraceServiceRequest` in the OpenTelemetry protocol's JSON (OTLP 1.7, "JSON Protobuf Encoding"),
-- in order. A span, a scope or a resource that does not read is left out.
use Rattle.std.specs.Prelude.{ℕ, ◌+◌, ◌||◌, Bool, false, true, List, [], ◌∷◌, codes, Option, Some, None}
use Rattle.std.specs.Prelude.{Result, Ok, Err, if◌then◌else◌, is_some, map, option_and_then}
use Rattle.std.specs.FinMap.{entries}
use Rattle.json.specs.Json.{Json, null, boolean, number, string, array, object, no_members, member}
use Rattle.json.specs.Find.{get}
use Rattle.opentelemetry.specs.Plain.{PlainValue}
use Rattle.opentelemetry.specs.ValueText.{value_text}
use Rattle.otel_resource.specs.Resource.{PlainResource}
use Rattle.otel_export.specs.PlainSpanData.{PlainSpanData}
use Rattle.otel_shown.specs.Shown.{PlainShownResource, PlainShownSpan, shown_span}
use Rattle.otel_otlp_read.specs.declared.fault.Fault.{Fault}
use Rattle.otel_otlp_read.specs.declared.fault.Fault.TheVariants as faults
use Rattle.otel_otlp_read.specs.declared.left_out.ItemList.{ItemList}
use Rattle.otel_otlp_read.specs.declared.left_out.ItemList.TheVariants as lists
use Rattle.otel_otlp_read.specs.Reading.{◌>>=◌}
use Rattle.otel_otlp_read.specs.Kept.{Kept, and_kept, kept_by, of_part}
use Rattle.otel_otlp_read.specs.Members.{given, list_of, object_or, own_name}
use Rattle.otel_otlp_read.specs.Resources.{PlainPair, pairs_member, shown_resource}
use Rattle.otel_otlp_read.specs.SpanParts.{span_in}

-- a span of a list, by its number there
abbrev pub span_at : PlainShownResource → ItemList → ℕ → Json → Kept PlainShownSpan
span_at shown list n j =
    of_part (record { list = list; number = n })
    (span_in shown j >>= λ read. Ok (record { kept = read.span ∷ []; left_out = read.left_out }))

-- the items of a scope that are its spans
unfoldable pub scope_items : Json → Result (List Json) Fault
scope_items j = do
  _ ← object_or faults.ScopeSpansItem j
  list_of (codes "spans") faults.SpansType j

-- the spans of one scope of a resource, by both numbers
unfoldable pub scope_spans_in : PlainShownResource → ℕ → ℕ → Json → Kept PlainShownSpan
scope_spans_in shown resource n j =
    of_part (record { list = lists.ScopeSpans resource; number = n })
    (scope_items j >>= λ items. Ok (kept_by (span_at shown (lists.Spans resource n)) 1 items))

-- the name that older versions have in the place of `scopeSpans`
unfoldable pub is_misnamed : Json → Bool
is_misnamed j = is_some (given (codes "instrumentationLibrarySpans") j)

abbrev pub well_named : Json → Result (Unit {0}) Fault
well_named j = if is_misnamed j then Err faults.ScopeSpansName else Ok tt

-- the items of a resource that are its scopes
unfoldable pub resource_items : Json → Result (List Json) Fault
resource_items j = do
  _ ← object_or faults.ResourceSpansItem j
  _ ← well_named j
  list_of (codes "scopeSpans") faults.ScopeSpansType j

-- the spans of scopes, of a resource of these attributes
abbrev pub scopes_in : Kept PlainPair → ℕ → List Json → Kept PlainShownSpan
scopes_in read n items =
    and_kept (record { kept = []; left_out = read.left_out })
    (kept_by (scope_spans_in (shown_resource read.kept) n) 1 items)

-- the spans of one resource, the one of this number
unfoldable pub resource_spans_in : ℕ → Json → Kept PlainShownSpan
resource_spans_in n j =
    of_part (record { list = lists.ResourceSpans; number = n })
    (resource_items j >>= λ items. Ok (scopes_in (pairs_member n j) n items))

-- an object that says nothing
abbrev pub is_empty_object : Json → Bool
is_empty_object null = false
is_empty_object (boolean _) = false
is_empty_object (number _) = false
is_empty_object (string _) = false
is_empty_object (array _) = false
is_empty_object (object no_members) = true
is_empty_object (object (member name j others)) = false

-- whether an object has a member of a name, or of protobuf's own for it, also one that is null
unfoldable pub has : List ℕ → Json → Bool
has name j = is_some (get name j) || is_some (option_and_then (λ own. get own j) (own_name name))

-- what is said of a resource, spans or what another signal says, without a request around it
unfoldable pub is_resource : Json → Bool
is_resource j =
    has (codes "scopeSpans") j || has (codes "scopeMetrics") j || has (codes "scopeLogs") j
    || has (codes "scopeProfiles") j

-- the same of resources
unfoldable pub are_resources : Json → Bool
are_resources j =
    has (codes "resourceSpans") j || has (codes "resourceMetrics") j || has (codes "resourceLogs") j
    || has (codes "resourceProfiles") j

-- a request says nothing, or something of resources, or of one alone
abbrev pub is_request : Json → Bool
is_request j = is_empty_object j || (are_resources j || is_resource j)

abbrev pub known_request : Json → Result (Unit {0}) Fault
known_request j = if is_request j then Ok tt else Err faults.ResourceSpansMissing

-- a resource that stands alone, as logging exporters write it
abbrev pub alone_in : Json → List Json
alone_in j = if has (codes "scopeSpans") j then j ∷ [] else []

-- the resources of a request, or the one that stands alone
unfoldable pub resources_in : Json → Result (List Json) Fault
resources_in j =
    if has (codes "resourceSpans") j then list_of (codes "resourceSpans") faults.ResourceSpansType j
    else Ok (alone_in j)

-- the spans of a request, as they are shown, none where it says nothing of spans
unfoldable pub read_request : Json → Result (Kept PlainShownSpan) Fault
read_request j = do
  _ ← object_or faults.RequestType j
  _ ← known_request j
  items ← resources_in j
  Ok (kept_by resource_spans_in 1 items)

-- a key and a value as they are shown
abbrev pub pair_of : List ℕ × PlainValue → PlainPair
pair_of pair = (pair.0, value_text pair.1)

-- a resource of ours as it is shown: the text of its attribute `service.name`, empty where it has none, and all of them
abbrev pub resource_of : PlainResource → PlainShownResource
resource_of resource = shown_resource (map pair_of (entries resource.attributes))

-- what is read of a batch of ours: all of it
abbrev pub whole_batch : PlainResource → List PlainSpanData → Kept PlainShownSpan
whole_batch resource batch = record { kept = map (shown_span (resource_of resource)) batch; left_out = [] }
