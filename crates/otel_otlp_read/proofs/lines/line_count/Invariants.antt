-- The lines so far, and those that are left, are all; each but the last took a byte at least.
use Rattle.std.proofs.Common.{◌≡◌, ◌+◌, ◌≤◌, length}
use Rattle.otel_otlp_read.specs.Inputs.{lines_after, text_lines}
use Rattle.otel_otlp_read.proofs.LeftLines.{left, left_text}
use Rattle.otel_otlp_read.proofs.lines.line_count.Given as goal

abbrev pub invariant-loop-left : goal.invariant-loop-left
invariant-loop-left l = record {
  counted : l.count + length (lines_after (left_text l.left)) ≡ length (text_lines l.text);
  room : l.count + left (left_text l.left) ≤ length l.text + 1;
}

abbrev pub decreases-loop-left : goal.decreases-loop-left
decreases-loop-left l = left (left_text l.left)
