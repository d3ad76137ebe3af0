-- One member after another.
use Rattle.std.proofs.Common.{[], ◌∷◌, codes, ap, map, ◌∙◌}
use Rattle.json.specs.Tree.{json_tokens}
use Rattle.otel_otlp.specs.Fields.{fields_tokens, list_json}
use Rattle.otel_otlp.specs.Otlp.{or_empty, scope_json}
use Rattle.otel_otlp.specs.OtlpSpan.{span_json}
use Rattle.otel_otlp.specs.OtlpValues.{text_field}
use Rattle.otel_otlp.specs.ScopeRuns.{run_scope}
use Rattle.otel_otlp.proofs.Adding.{and_fields, as_array, as_field, as_object, as_tokens}
use Rattle.otel_otlp.proofs.tokens.RequestWriter.run.Goals as goal

pub returns : goal.returns
returns c =
    let spans = c.args.spans.now in
    let scope = scope_json (run_scope spans) in
    let list = list_json span_json spans in
    let schema = text_field (codes "schemaUrl") (or_empty (run_scope spans).schema_url) ∷ [] in
    let made = ap (λ scope. json_tokens (scope_json scope)) c.requires in
    let schemed =
    ap (λ text. fields_tokens (text_field (codes "schemaUrl") (or_empty text) ∷ []))
    (c.schema_url.ensures ∙ ap (λ scope. scope.schema_url) c.requires) in
    as_object ((codes "scope", scope) ∷ (codes "spans", list) ∷ schema) c.in_ok-begin_object.ensures
    (and_fields ((codes "scope", scope) ∷ []) ((codes "spans", list) ∷ schema)
    (as_field (codes "scope") scope c.in_ok-key.ensures (as_tokens made c.in_ok-scope.ensures))
    (and_fields ((codes "spans", list) ∷ []) schema
    (as_field (codes "spans") list c.in_ok-key-2.ensures
    (as_array (map span_json spans) c.in_ok-begin_array.ensures c.in_ok-span_items.ensures c.in_ok-end_array.ensures))
    (as_tokens schemed c.in_ok-optional_field.ensures))) c.end_object.ensures
