use Rattle.std.proofs.Common.{◌≡◌, ◌++◌, map, take}
use Rattle.opentelemetry.specs.PlainValues.{plain_pair}
use Rattle.opentelemetry.specs.Tracestate.{without_key}
use Rattle.opentelemetry.proofs.trace.trace_state.pairs.push_others.Given as goal

abbrev pub invariant-pairs : goal.invariant-pairs
invariant-pairs l = map plain_pair l.list.items ≡ map plain_pair l.initial.list.items ++ without_key l.key (map plain_pair (take l.pair-index l.pairs))
