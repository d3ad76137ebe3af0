use Rattle.std.proofs.Common.{◌≡◌, ◌++◌, ◌∷◌, [], sym, subst}
use Rattle.opentelemetry.specs.Plain.{PlainKeyValue}
use Rattle.opentelemetry.specs.PlainValues.{plain_value}
use Rattle.otel_resource.specs.Resource.{by_key, union, attributes_of}
use Rattle.otel_resource.proofs.AttributeLemmas.{union-empty, put_pair}
use Rattle.otel_resource.proofs.resource.attributes.put_pairs.Goals as goal

pub loop-pair-init : goal.loop-pair-init
loop-pair-init c = sym (union-empty (by_key c.args.attributes))

pub loop-pair-preserved : goal.loop-pair-preserved
loop-pair-preserved c =
    let base = by_key c.args.attributes in
    subst (λ (p : PlainKeyValue). by_key c.put.new.attributes ≡ union base (attributes_of (c.loop-pair.yielded ++ p ∷ []))) c.pair.view_is
    (put_pair base (by_key c.loop-pair.attributes) (by_key c.put.new.attributes) c.loop-pair.yielded
    (record { key = c.pair.inside.key; value = plain_value c.pair.inside.value }) c.in_ok-put.ensures.ok c.loop-pair.invariant)
