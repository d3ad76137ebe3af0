-- No line ends in what was looked at.
use Rattle.std.proofs.Common.{◌≤◌, length, drop}
use Rattle.otel_trace_session.specs.Pieces.{EndsNoLine}
use Rattle.otel_trace_session.proofs.pieces.last_line_end.Given as goal

abbrev pub invariant-loop-end : goal.invariant-loop-end
invariant-loop-end l = record { within : l.end ≤ length l.bytes; none : EndsNoLine (drop l.end l.bytes) }

abbrev pub decreases-loop-end : goal.decreases-loop-end
decreases-loop-end l = l.end
