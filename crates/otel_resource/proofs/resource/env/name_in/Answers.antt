use Rattle.std.proofs.Common.{◌≡◌, sym, ap, ◌∙◌}
use Rattle.std.specs.FinMap as fin
use Rattle.std.specs.Option.{option_map}
use Rattle.opentelemetry.specs.PlainValues.{plain_value}
use Rattle.otel_resource.specs.Resource.{Attributes, union, attributes_of, service_name_key}
use Rattle.otel_resource.proofs.AttributeLemmas.{by_key-empty, union-empty_left, get-by_key}
use Rattle.otel_resource.proofs.resource.env.name_in.Goals as goal

pub returns : goal.returns
returns c =
    let (pairs, reads, put) = c.in_ok-attributes.ensures in
    let key : c.from_static_str-key.result ≡ service_name_key = c.from_static_str-key.ensures in (
      pairs,
      reads,
      ap (option_map plain_value) c.remove.ensures.value
          ∙ sym (get-by_key c.in_ok-attributes.attributes c.from_static_str-key.result)
          ∙ (λ i. fin.get (put i) (key i))
          ∙ ap (λ (m : Attributes). fin.get (union m (attributes_of pairs)) service_name_key) (by_key-empty c.new.result c.new.ensures.empty)
          ∙ ap (λ (m : Attributes). fin.get m service_name_key) (union-empty_left (attributes_of pairs)),
    )
