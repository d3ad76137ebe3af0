-- The pairs so far, and those that are left.
use Rattle.std.proofs.Common.{◌≡◌, ◌++◌, length, map}
use Rattle.std.specs.FinMap.{entries}
use Rattle.opentelemetry.specs.PlainValues.{plain_value}
use Rattle.otel_otlp_protobuf.proofs.request.RowOf.new.Given as goal

abbrev pub invariant-loop-key : goal.invariant-loop-key
invariant-loop-key l =
    map (λ pair. (pair.key.now, plain_value pair.value.now)) l.pairs.items ++ l.key-iterator
    ≡ entries l.fn.resource.attributes

abbrev pub decreases-loop-key : goal.decreases-loop-key
decreases-loop-key l = length l.key-iterator
