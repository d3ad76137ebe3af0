-- A list, then a number.
use Rattle.std.proofs.Common.{[], ◌∷◌, codes, map}
use Rattle.otel_otlp.specs.Fields.{list_json}
use Rattle.otel_otlp.specs.OtlpValues.{attribute_json, number_field}
use Rattle.otel_otlp.proofs.Adding.{and_fields, as_array, as_field}
use Rattle.otel_otlp.proofs.tokens.RequestWriter.attributes.Goals as goal

pub returns : goal.returns
returns c =
    let attributes = c.args.attributes.now in
    let list = list_json attribute_json attributes in
    and_fields ((codes "attributes", list) ∷ []) (number_field (codes "droppedAttributesCount") c.args.dropped ∷ [])
    (as_field (codes "attributes") list c.in_ok-key.ensures
    (as_array (map attribute_json attributes) c.in_ok-begin_array.ensures c.in_ok-attribute_items.ensures
    c.in_ok-end_array.ensures)) c.number_field.ensures
