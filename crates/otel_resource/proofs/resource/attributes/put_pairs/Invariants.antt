use Rattle.std.proofs.Common.{◌≡◌}
use Rattle.otel_resource.specs.Resource.{by_key, union, attributes_of}
use Rattle.otel_resource.proofs.resource.attributes.put_pairs.Given as goal

abbrev pub invariant-loop-pair : goal.invariant-loop-pair
invariant-loop-pair l = by_key l.attributes ≡ union (by_key l.fn.attributes) (attributes_of l.yielded)
