-- One token after another.
use Rattle.std.proofs.Common.{[], ◌∷◌, codes}
use Rattle.json.specs.Json.{array}
use Rattle.opentelemetry.specs.PlainValues.{plain_array}
use Rattle.otel_otlp.specs.Fields.{items_of}
use Rattle.otel_otlp.specs.OtlpValues.{array_items, single}
use Rattle.otel_otlp.proofs.Adding.{as_array, as_field, as_object}
use Rattle.otel_otlp.proofs.tokens.RequestWriter.array_value.Goals as goal

pub returns : goal.returns
returns c =
    let items = array_items (plain_array c.args.array.now) in
    let values = array (items_of items) in
    let inner = single (codes "values") values in
    as_object ((codes "arrayValue", inner) ∷ []) c.in_ok-begin_object.ensures
    (as_field (codes "arrayValue") inner c.in_ok-key.ensures
    (as_object ((codes "values", values) ∷ []) c.in_ok-begin_object-2.ensures
    (as_field (codes "values") values c.in_ok-key-2.ensures
    (as_array items c.in_ok-begin_array.ensures c.in_ok-array_items.ensures c.in_ok-end_array.ensures))
    c.in_ok-end_object.ensures)) c.end_object-2.ensures
