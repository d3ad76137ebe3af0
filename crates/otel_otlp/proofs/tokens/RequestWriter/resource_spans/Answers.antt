-- One member after another.
use Rattle.std.proofs.Common.{[], ◌∷◌, codes, ap, map, List, ℕ, ◌≡◌, ◌∙◌, refl}
use Rattle.otel_resource.specs.Resource.{non_empty}
use Rattle.otel_otlp.specs.Fields.{fields_tokens, list_json}
use Rattle.otel_otlp.specs.Otlp.{or_empty, resource_json, run_json}
use Rattle.otel_otlp.specs.OtlpValues.{text_field}
use Rattle.otel_otlp.specs.ScopeRuns.{scope_runs}
use Rattle.otel_otlp.proofs.Adding.{and_fields, as_array, as_field, as_object, as_tokens}
use Rattle.otel_otlp.proofs.tokens.RequestWriter.resource_spans.Goals as goal

-- a text that is none where it is empty
or_none : (text : List ℕ) → or_empty (non_empty text) ≡ text
or_none [] = refl
or_none (b ∷ bs) = refl

pub returns : goal.returns
returns c =
    let runs = scope_runs c.args.batch.now in
    let resource = resource_json c.args.resource.now in
    let list = list_json run_json runs in
    let schema = text_field (codes "schemaUrl") c.args.resource.now.schema_url ∷ [] in
    let schemed =
    ap (λ text. fields_tokens (text_field (codes "schemaUrl") text ∷ []))
    (ap or_empty c.schema_url.ensures.text ∙ or_none c.args.resource.now.schema_url) in
    as_object ((codes "resource", resource) ∷ (codes "scopeSpans", list) ∷ schema) c.in_ok-begin_object.ensures
    (and_fields ((codes "resource", resource) ∷ []) ((codes "scopeSpans", list) ∷ schema)
    (as_field (codes "resource") resource c.in_ok-key.ensures c.in_ok-resource.ensures)
    (and_fields ((codes "scopeSpans", list) ∷ []) schema
    (as_field (codes "scopeSpans") list c.in_ok-key-2.ensures
    (as_array (map run_json runs) c.in_ok-begin_array.ensures c.in_ok-runs.ensures c.in_ok-end_array.ensures))
    (as_tokens schemed c.in_ok-optional_field.ensures))) c.end_object.ensures
