use Rattle.std.proofs.Common.{◌≡◌, ◌+◌, ◌*◌, ◌≤◌, ◌++◌, length, drop}
use Rattle.otel_lines.specs.HexBytes.{bytes_text}
use Rattle.otel_lines.proofs.digits.write_bytes.Given as goal

abbrev pub invariant-loop-left : goal.invariant-loop-left
invariant-loop-left l =
    (l.left ≤ length l.bytes) × (l.at + 2 * length l.bytes ≡ l.end + 2 * l.left)
    × (drop l.at l.buffer ≡ bytes_text (drop l.left l.bytes) ++ drop l.end l.fn.buffer)

abbrev pub decreases-loop-left : goal.decreases-loop-left
decreases-loop-left l = l.left
