use Rattle.std.proofs.Common.{◌≡◌, map, drop}
use Rattle.opentelemetry.specs.PlainValues.{plain_pair}
use Rattle.opentelemetry.specs.Tracestate.{value_of_key}
use Rattle.opentelemetry.proofs.trace.trace_state.pairs.value_of_key.Given as goal

abbrev pub invariant-pairs : goal.invariant-pairs
invariant-pairs l = value_of_key l.key (map plain_pair (drop l.name-index l.pairs)) ≡ value_of_key l.key (map plain_pair l.pairs)
