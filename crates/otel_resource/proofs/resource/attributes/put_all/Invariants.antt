use Rattle.std.proofs.Common.{◌≡◌, map}
use Rattle.opentelemetry.specs.PlainValues.{plain_value}
use Rattle.otel_resource.specs.Resource.{by_key, union}
use Rattle.otel_resource.proofs.AttributeLemmas.{last_wins}
use Rattle.otel_resource.proofs.resource.attributes.put_all.Given as goal

abbrev pub invariant-loop-key : goal.invariant-loop-key
invariant-loop-key l = by_key l.left ≡ union (by_key l.fn.left) (last_wins (map (λ e. (e.0, plain_value e.1)) l.yielded))
