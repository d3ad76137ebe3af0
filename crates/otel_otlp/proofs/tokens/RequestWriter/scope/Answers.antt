-- One member after another.
use Rattle.std.proofs.Common.{[], ◌∷◌, codes, ap}
use Rattle.otel_otlp.specs.Fields.{fields_tokens}
use Rattle.otel_otlp.specs.Otlp.{or_empty}
use Rattle.otel_otlp.specs.OtlpValues.{attributes_fields, text_field}
use Rattle.otel_otlp.proofs.Adding.{and_fields, as_object, as_tokens}
use Rattle.otel_otlp.proofs.tokens.RequestWriter.scope.Goals as goal

pub returns : goal.returns
returns c =
    let scope = c.args.scope.now in
    let name = text_field (codes "name") scope.name in
    let version = text_field (codes "version") (or_empty scope.version) in
    let attributes = attributes_fields scope.attributes 0 in
    let named = ap (λ text. fields_tokens (text_field (codes "name") text ∷ [])) c.name.ensures in
    let versioned = ap (λ text. fields_tokens (text_field (codes "version") (or_empty text) ∷ [])) c.version.ensures in
    let kept = ap (λ items. fields_tokens (attributes_fields items 0)) c.attributes.ensures in
    as_object (name ∷ version ∷ attributes) c.in_ok-begin_object.ensures
    (and_fields (name ∷ []) (version ∷ attributes) (as_tokens named c.in_ok-text_field.ensures)
    (and_fields (version ∷ []) attributes (as_tokens versioned c.in_ok-optional_field.ensures)
    (as_tokens kept c.in_ok-attributes.ensures))) c.end_object.ensures
