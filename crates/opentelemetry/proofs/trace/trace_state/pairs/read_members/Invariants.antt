use Rattle.std.proofs.Common.{◌≡◌, ◌++◌, map, None}
use Rattle.opentelemetry.specs.PlainValues.{plain_pair}
use Rattle.opentelemetry.specs.Tracestate.{first_fault, members, pair_of}
use Rattle.opentelemetry.proofs.PiecesLeft.{members_left, IsTextLeft, rest_len}
use Rattle.opentelemetry.proofs.trace.trace_state.pairs.read_members.Given as goal

abbrev pub invariant-pieces : goal.invariant-pieces
invariant-pieces l = record {
  is_text : IsTextLeft l.rest;
  sound : first_fault (members_left l.rest) ≡ None;
  read : map plain_pair l.pairs.items ++ map pair_of (members_left l.rest) ≡ map pair_of (members l.text);
}

abbrev pub decreases-pieces : goal.decreases-pieces
decreases-pieces l = rest_len l.rest
