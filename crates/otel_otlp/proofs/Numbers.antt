-- Each number of a request is one that JSON knows, where the spans fit.
use Rattle.std.proofs.Common.{◌≡◌, ◌<◌, ◌^◌, ℕ, ℤ, Bool, true, false, List, [], ◌∷◌, arith, map, refl}
use Rattle.std.specs.Bool.{passes}
use Rattle.std.specs.FinMap.{entries}
use Rattle.std.specs.Float.{float_is_finite}
use Rattle.std.specs.Float.Ieee.{Float, nan, inf, fin}
use Rattle.std.specs.Fmt.{decimal}
use Rattle.std.specs.List.{AllByRecursion}
use Rattle.std.specs.Prelude.{⊤}
use Rattle.json.proofs.Printed.Decimals.{IsNumber-decimal}
use Rattle.json.proofs.Printed.Floats.{IsNumber-plain}
use Rattle.json.specs.Json.{Json}
use Rattle.json.specs.Json as json
use Rattle.json.specs.Tree.{HasNumbers, ItemsHaveNumbers, MembersHaveNumbers}
use Rattle.opentelemetry.specs.Plain.{PlainEvent, PlainKeyValue, PlainLink, PlainScope, PlainStatus}
use Rattle.opentelemetry.specs.Plain.{PlainValue, boolean, integer, text, booleans, integers, texts, double, doubles}
use Rattle.otel_float.proofs.Texts.{reads}
use Rattle.otel_float.specs.FloatText.{float_text}
use Rattle.otel_resource.specs.Resource.{PlainResource}
use Rattle.otel_export.specs.PlainSpanData.{PlainSpanData}
use Rattle.otel_otlp.specs.Fields.{Field, items_of, list_json, members_of}
use Rattle.otel_otlp.specs.Fits.{AttributeFits, EventFits, FloatFits, LinkFits, PairFits, ResourceFits, SpanFits}
use Rattle.otel_otlp.specs.Fits.{ValueFits}
use Rattle.otel_otlp.specs.OtlpSpan.{code_number, event_fields, event_json, flags_of, identity_fields, kind_number}
use Rattle.otel_otlp.specs.Otlp.{request, resource_fields, resource_json}
use Rattle.otel_otlp.specs.OtlpSpan.{link_fields, link_json, recording_fields}
use Rattle.otel_otlp.specs.Otlp.{resource_spans_fields, resource_spans_json, run_fields, run_json, scope_fields}
use Rattle.otel_otlp.specs.Otlp.{scope_json}
use Rattle.otel_otlp.specs.OtlpSpan.{span_fields, span_json, status_fields, status_json}
use Rattle.otel_otlp.specs.OtlpValues.{attribute_json, attributes_fields, bool_json, double_json, float_json}
use Rattle.otel_otlp.specs.OtlpValues.{integer_json, pair_fields, pair_json, text_json, value_json}
use Rattle.otel_otlp.specs.ScopeRuns.{run_scope, scope_runs}
use Rattle.otel_otlp.proofs.Fitting.{all_joined}
use Rattle.otel_otlp.proofs.NumbersAlike.{code_small, flags_small, kind_small}
use Rattle.otel_otlp.proofs.RunsFit.{RunFits, batch_runs_fit, scope_fits}
use Rattle.otel_otlp.proofs.ValuesAlike.{anything}

-- the values of members
abbrev FieldHas : Field → Type 0
FieldHas field = HasNumbers field.1

abbrev FieldsHave : List Field → Type 0
FieldsHave fields = AllByRecursion FieldHas fields

members_have : (fields : List Field) → FieldsHave fields → MembersHaveNumbers (members_of fields)
members_have [] h = tt
members_have (field ∷ fields) h = (h.0, members_have fields h.1)

items_have : {X : Type 0} (json : X → Json) (P : X → Type 0) → ((x : X) → P x → HasNumbers (json x)) → (xs : List X)
    → AllByRecursion P xs → ItemsHaveNumbers (items_of (map json xs))
items_have json P has [] h = tt
items_have json P has (x ∷ xs) h = (has x h.0, items_have json P has xs h.1)

-- of texts, truths and integers nothing is asked
any_have : {X : Type 0} (json : X → Json) → ((x : X) → HasNumbers (json x)) → (xs : List X)
    → HasNumbers (list_json json xs)
any_have json has xs = items_have json (λ x. ⊤) (λ x h. has x) xs (anything xs)

-- the text of a float that is a number
finite : (s : Bool) (m : ℕ) (e : ℤ) → float_is_finite (fin s m e) ≡ true
unfolding float_is_finite
finite s m e = refl

float_has : (x : Float) → FloatFits x → HasNumbers (float_json x)
float_has nan h = tt
float_has (inf true) h = tt
float_has (inf false) h = tt
float_has (fin s m e) h =
    IsNumber-plain (float_text (fin s m e)) ((reads (fin s m e) (passes _ h)).plain (finite s m e))

double_has : (x : Float) → FloatFits x → HasNumbers (double_json x)
double_has x h = (float_has x h, tt)

value_has : (value : PlainValue) → ValueFits value → HasNumbers (value_json value)
value_has (boolean truth) h = (tt, tt)
value_has (integer number) h = (tt, tt)
value_has (text bytes) h = (tt, tt)
value_has (booleans truths) h = ((any_have bool_json (λ truth. (tt, tt)) truths, tt), tt)
value_has (integers numbers) h = ((any_have integer_json (λ number. (tt, tt)) numbers, tt), tt)
value_has (texts many) h = ((any_have text_json (λ bytes. (tt, tt)) many, tt), tt)
value_has (double x) h = double_has x h
value_has (doubles xs) h = ((items_have double_json FloatFits double_has xs h, tt), tt)

pair_has : (pair : List ℕ × PlainValue) → PairFits pair → HasNumbers (pair_json pair)
pair_has pair h = members_have (pair_fields pair) (tt, (value_has pair.1 h, tt))

count_has : (n : ℕ) → n < 2 ^ 32 → HasNumbers (json.number (decimal n))
count_has n h = IsNumber-decimal n (omega arith)

attributes_have : (attributes : List PlainKeyValue) (dropped : ℕ) → AllByRecursion AttributeFits attributes
    → dropped < 2 ^ 32 → FieldsHave (attributes_fields attributes dropped)
attributes_have attributes dropped fits h =
    let each = items_have attribute_json AttributeFits (λ a. pair_has (a.key, a.value)) attributes fits in
    (each, (count_has dropped h, tt))

flags_have : (flags : ℕ) (is_remote : Bool) → flags < 2 ^ 8
    → HasNumbers (json.number (decimal (flags_of flags is_remote)))
flags_have flags is_remote h = IsNumber-decimal (flags_of flags is_remote) (flags_small flags is_remote h)

event_has : (event : PlainEvent) → EventFits event → HasNumbers (event_json event)
event_has event h =
    let attributes =
    attributes_have event.attributes event.dropped_attributes_count h.attributes h.dropped_attributes_count in
    members_have (event_fields event) (tt, (tt, attributes))

link_has : (link : PlainLink) → LinkFits link → HasNumbers (link_json link)
link_has link h =
    let context = link.span_context in
    let attributes =
    attributes_have link.attributes link.dropped_attributes_count h.attributes h.dropped_attributes_count in
    let flags = flags_have context.trace_flags context.is_remote h.span_context.trace_flags in
    members_have (link_fields link) (tt, (tt, (tt, (attributes.0, (attributes.1.0, (flags, tt))))))

status_has : (status : PlainStatus) → HasNumbers (status_json status)
status_has status =
    members_have (status_fields status) (tt, (IsNumber-decimal (code_number status) (code_small status), tt))

identity_has : (span : PlainSpanData) → SpanFits span → FieldsHave (identity_fields span)
identity_has span h =
    let context = span.span_context in
    let flags = flags_have context.trace_flags span.parent_span_is_remote h.span_context.trace_flags in
    let kind = IsNumber-decimal (kind_number span.span_kind) (kind_small span.span_kind) in
    (tt, (tt, (tt, (tt, (flags, (tt, (kind, (tt, (tt, tt)))))))))

recording_has : (span : PlainSpanData) → SpanFits span → FieldsHave (recording_fields span)
recording_has span h =
    let attributes =
    attributes_have span.attributes span.dropped_attributes_count h.attributes h.dropped_attributes_count in
    let events = items_have event_json EventFits event_has span.events.events h.events in
    let dropped_events = count_has span.events.dropped_count h.dropped_events_count in
    let links = items_have link_json LinkFits link_has span.links.links h.links in
    let dropped_links = count_has span.links.dropped_count h.dropped_links_count in
    let status = status_has span.status in
    (attributes.0, (attributes.1.0, (events, (dropped_events, (links, (dropped_links, (status, tt)))))))

span_has : (span : PlainSpanData) → SpanFits span → HasNumbers (span_json span)
span_has span h =
    members_have (span_fields span)
    (all_joined FieldHas (identity_fields span) (recording_fields span) (identity_has span h) (recording_has span h))

scope_has : (scope : PlainScope) → AllByRecursion AttributeFits scope.attributes → HasNumbers (scope_json scope)
scope_has scope h =
    members_have (scope_fields scope) (tt, (tt, attributes_have scope.attributes 0 h (omega arith)))

run_has : (run : List PlainSpanData) → RunFits run → HasNumbers (run_json run)
run_has run h =
    let spans = items_have span_json SpanFits span_has run h.fits in
    members_have (run_fields run) (scope_has (run_scope run) (scope_fits run h), (spans, (tt, tt)))

resource_has : (resource : PlainResource) → ResourceFits resource → HasNumbers (resource_json resource)
resource_has resource h =
    members_have (resource_fields resource)
    (items_have pair_json PairFits pair_has (entries resource.attributes) h, (count_has 0 (omega arith), tt))

resource_spans_have : (resource : PlainResource) (batch : List PlainSpanData) → ResourceFits resource
    → AllByRecursion SpanFits batch → HasNumbers (resource_spans_json resource batch)
resource_spans_have resource batch fits h =
    let runs = items_have run_json RunFits run_has (scope_runs batch) (batch_runs_fit batch h) in
    members_have (resource_spans_fields resource batch) (resource_has resource fits, (runs, (tt, tt)))

pub request_has : (resource : PlainResource) (batch : List PlainSpanData) → ResourceFits resource
    → AllByRecursion SpanFits batch → HasNumbers (request resource batch)
request_has resource batch fits h = ((resource_spans_have resource batch fits h, tt), tt)
