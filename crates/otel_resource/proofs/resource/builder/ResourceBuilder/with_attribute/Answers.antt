use Rattle.std.proofs.Common.{◌∷◌, [], string_bytes, refl, ◌∙◌}
use Rattle.std.proofs.lemmas.Result.{IfOk-weaker}
use Rattle.opentelemetry.specs.Plain.{PlainKeyValue}
use Rattle.opentelemetry.specs.PlainValues.{plain_value}
use Rattle.otel_resource.specs.Resource.{PlainResource, by_key, with_pairs}
use Rattle.otel_resource.proofs.AttributeLemmas.{same_resource, with_pairs-one}
use Rattle.otel_resource.proofs.resource.builder.ResourceBuilder.with_attribute.Goals as goal

pub returns : goal.returns
returns c =
    let start : PlainResource = record { attributes = by_key c.parts.inside.attributes; schema_url = string_bytes c.parts.inside.schema_url } in
    let pair : PlainKeyValue = record { key = c.attribute.inside.key; value = plain_value c.attribute.inside.value } in
    let put = same_resource _ _ start.schema_url start.schema_url c.in_ok-put.ensures.ok refl in
    let whole = c.parts.view_is ∙ c.in_ok-parts.ensures ∙ c.self.view_is in
    IfOk-weaker c.of_parts.result _ _
    (λ built is. is ∙ put ∙ with_pairs-one start pair ∙ (λ i. with_pairs (whole i) (c.attribute.view_is i ∷ []))) c.of_parts.ensures
