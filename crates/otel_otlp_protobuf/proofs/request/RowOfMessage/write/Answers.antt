-- The pairs in a row.
use Rattle.std.proofs.Common.{◌∙◌, ap, map}
use Rattle.std.specs.FinMap.{entries}
use Rattle.opentelemetry.specs.PlainValues.{plain_value}
use Rattle.otel_otlp_protobuf.proofs.Steps.{last, many_taken, mapped_twice}
use Rattle.otel_otlp_protobuf.specs.NamedValues.{pair_members}
use Rattle.otel_otlp_protobuf.specs.Said.{items_fields, items_of}
use Rattle.otel_protobuf.proofs.Taking.{as_fields}
use Rattle.otel_otlp_protobuf.proofs.request.RowOfMessage.write.Goals as goal

pub returns : goal.returns
returns c =
    let pairs = c.self.inside.pairs.items in
    last _ (as_fields (ap (λ pairs. items_fields 1 (items_of (map pair_members pairs)))
    (c.self.invariant ∙ ap (λ resource. entries resource.attributes) c.self.view_is))
    (as_fields (ap (λ items. items_fields 1 (items_of items))
    (mapped_twice pair_members (λ pair. (pair.key.now, plain_value pair.value.now)) pairs))
    (many_taken 1 (λ pair. pair_members (pair.key.now, plain_value pair.value.now)) _ pairs c.deref.ensures.value
    c.repeated.ensures)))
