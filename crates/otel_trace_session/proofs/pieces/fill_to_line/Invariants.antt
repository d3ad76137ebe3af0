-- What was read stands after what was there before, and no line ends in it.
use Rattle.std.proofs.Common.{◌≡◌, ◌≤◌, length, take, drop}
use Rattle.std.specs.Io.KnownBytes.{Consumes}
use Rattle.otel_trace_session.specs.Pieces.{EndsNoLine}
use Rattle.otel_trace_session.proofs.pieces.fill_to_line.Given as goal

abbrev pub invariant-loop : goal.invariant-loop
invariant-loop g l = record {
  grown : l.filled ≤ l.now;
  within : l.now ≤ length l.buffer.items;
  front : take l.filled l.buffer.items ≡ take l.filled l.initial.buffer.items;
  read : Consumes (g.R.Read.remaining l.initial.reader) (g.R.Read.remaining l.reader) (drop l.filled (take l.now l.buffer.items));
  none : EndsNoLine (drop l.filled (take l.now l.buffer.items));
}
