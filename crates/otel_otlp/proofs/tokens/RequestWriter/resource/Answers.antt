-- One member after another.
use Rattle.std.proofs.Common.{[], ◌∷◌, codes, map}
use Rattle.std.specs.FinMap.{entries}
use Rattle.otel_otlp.specs.Fields.{list_json}
use Rattle.otel_otlp.specs.OtlpValues.{number_field, pair_json}
use Rattle.otel_otlp.proofs.Adding.{and_fields, as_array, as_field, as_object}
use Rattle.otel_otlp.proofs.tokens.RequestWriter.resource.Goals as goal

pub returns : goal.returns
returns c =
    let pairs = entries c.args.resource.now.attributes in
    let list = list_json pair_json pairs in
    let dropped = number_field (codes "droppedAttributesCount") 0 ∷ [] in
    as_object ((codes "attributes", list) ∷ dropped) c.in_ok-begin_object.ensures
    (and_fields ((codes "attributes", list) ∷ []) dropped
    (as_field (codes "attributes") list c.in_ok-key.ensures
    (as_array (map pair_json pairs) c.in_ok-begin_array.ensures c.in_ok-pairs.ensures c.in_ok-end_array.ensures))
    c.in_ok-number_field.ensures) c.end_object.ensures
