use Rattle.std.proofs.Common.{◌≡◌, ◌-◌, ◌^◌, min, length, map, take}
use Rattle.opentelemetry.specs.PlainValues.{plain_pair}
use Rattle.opentelemetry.specs.Tracestate.{member_text}
use Rattle.std.specs.List.{join_with_byte}
use Rattle.opentelemetry.proofs.trace.trace_state.pairs.header_len.Given as goal

abbrev pub invariant-pairs : goal.invariant-pairs
invariant-pairs l = l.len ≡ min (length (join_with_byte 44 (map (λ pair. member_text (plain_pair pair)) (take l.i l.pairs)))) (2 ^ 64 - 1)
