use Rattle.std.proofs.Common.{◌≡◌, map, take, string_bytes}
use Rattle.opentelemetry.specs.PlainValues.{plain_pair}
use Rattle.opentelemetry.specs.Tracestate.{member_text}
use Rattle.std.specs.List.{join_with_byte}
use Rattle.opentelemetry.proofs.trace.trace_state.pairs.header.Given as goal

abbrev pub invariant-pairs : goal.invariant-pairs
invariant-pairs l = string_bytes l.text ≡ join_with_byte 44 (map (λ pair. member_text (plain_pair pair)) (take l.i l.pairs))
