-- The sum of the bytes so far.
use Rattle.std.proofs.Common.{◌≡◌, ◌%◌, sum, take}
use Rattle.otel_picture.proofs.svg_row.colour_of.Given as goal

abbrev pub invariant-loop-byte : goal.invariant-loop-byte
invariant-loop-byte l = l.colour ≡ sum (take l.byte-index l.service) % 8
