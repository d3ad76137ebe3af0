use Rattle.std.proofs.Common.{◌≡◌}
use Rattle.opentelemetry.specs.Tracestate.{members, first_fault}
use Rattle.opentelemetry.proofs.PiecesLeft.{members_left, IsTextLeft, rest_len}
use Rattle.opentelemetry.proofs.trace.trace_state.grammar.text_fault.Given as goal

abbrev pub invariant-pieces : goal.invariant-pieces
invariant-pieces l = record { is_text : IsTextLeft l.rest; same : first_fault (members_left l.rest) ≡ first_fault (members l.text) }

abbrev pub decreases-pieces : goal.decreases-pieces
decreases-pieces l = rest_len l.rest
