-- What was read of the lines so far, and what is read of those that are left, is all. Each line but the last took a
-- byte at least, and has one request at most.
use Rattle.std.proofs.Common.{◌≡◌, ◌+◌, ◌≤◌, length}
use Rattle.otel_otlp_read.specs.Inputs.{and_read, lines_after, read_lines, text_lines}
use Rattle.otel_otlp_read.proofs.LeftLines.{left, left_text}
use Rattle.otel_otlp_read.proofs.input.ReadText.add_lines.Given as goal

abbrev pub invariant-loop-left : goal.invariant-loop-left
invariant-loop-left l = record {
  read : and_read l.self (read_lines l.number (lines_after (left_text l.left)))
      ≡ and_read l.fn.self (read_lines l.first (text_lines l.text));
  few : l.self.spanless + left (left_text l.left) ≤ l.fn.self.spanless + length l.text + 1;
  room : l.number + left (left_text l.left) ≤ l.first + length l.text + 1;
}

abbrev pub decreases-loop-left : goal.decreases-loop-left
decreases-loop-left l = left (left_text l.left)
