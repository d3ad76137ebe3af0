-- The lines read so far spell the commands read so far, and each took a byte at least.
use Rattle.std.proofs.Common.{◌+◌, ◌≤◌, length}
use Rattle.otel_trace_lines.specs.Commands.{plain_commands}
use Rattle.otel_trace_lines.proofs.Spelled.{HasRead}
use Rattle.otel_trace_lines.proofs.lines.parse.Given as goal

abbrev pub invariant-loop-line : goal.invariant-loop-line
invariant-loop-line l = record {
  read : HasRead l.dialect l.text l.rest (plain_commands l.commands.items) l.number;
  room : l.number + length l.rest ≤ length l.text;
}

abbrev pub decreases-loop-line : goal.decreases-loop-line
decreases-loop-line l = length l.rest
