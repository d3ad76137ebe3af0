-- What was read of the parts so far, and what is read of those that are left, is all. Each line but the last took a
-- byte at least, and has one request at most.
use Rattle.std.proofs.Common.{◌≡◌, ◌+◌, ◌<◌, ◌≤◌, length}
use Rattle.otel_otlp_read.specs.Cuts.{parts, parts_after}
use Rattle.otel_otlp_read.specs.Inputs.{and_read, read_parts}
use Rattle.otel_otlp_read.proofs.LeftLines.{left, left_text}
use Rattle.otel_otlp_read.proofs.input.read_parts.Given as goal

abbrev pub invariant-loop-left : goal.invariant-loop-left
invariant-loop-left l = record {
  read : and_read l.read (read_parts l.number (parts_after (left_text l.left))) ≡ read_parts 1 (parts l.text);
  few : l.read.spanless < l.number;
  room : l.number + left (left_text l.left) ≤ length l.text + 2;
}

abbrev pub decreases-loop-left : goal.decreases-loop-left
decreases-loop-left l = left (left_text l.left)
