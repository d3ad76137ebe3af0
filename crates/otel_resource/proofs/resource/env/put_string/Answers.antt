use Rattle.std.proofs.Common.{◌≡◌, [], string_bytes, refl, sym, ap, subst, unwrap_or}
use Rattle.std.specs.Option.{option_map}
use Rattle.otel_resource.specs.Resource.{by_key}
use Rattle.otel_resource.specs.AttributesString.{IsAttributesString}
use Rattle.otel_resource.proofs.AttributeLemmas.{union-empty}
use Rattle.otel_resource.proofs.resource.env.put_string.Goals as goal

pub returns-in-None : goal.returns-in-None
returns-in-None c =
    let nothing : [] ≡ unwrap_or (option_map string_bytes c.args.given.now) [] = ap (λ o. unwrap_or (option_map string_bytes o) []) (sym c.in-None.is) in (
      [],
      subst (λ t. IsAttributesString t []) nothing ([], refl, refl),
      sym (union-empty (by_key c.args.attributes)),
    )
