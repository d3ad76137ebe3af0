use Rattle.std.proofs.Common.{◌≡◌, map, drop}
use Rattle.opentelemetry.specs.PlainValues.{plain_pair}
use Rattle.opentelemetry.specs.Tracestate.{first_pair_fault}
use Rattle.opentelemetry.proofs.trace.trace_state.pairs.first_pair_fault.Given as goal

abbrev pub invariant-pairs : goal.invariant-pairs
invariant-pairs l = first_pair_fault (map plain_pair (drop l.key-index l.pairs)) ≡ first_pair_fault (map plain_pair l.pairs)
