-- The value is not in the lines so far.
use Rattle.std.proofs.Common.{◌≡◌, length, drop}
use Rattle.otel_picture.specs.Details.{lines_in, value_in}
use Rattle.otel_picture.proofs.details.value_in.Given as goal

abbrev pub invariant-loop-line : goal.invariant-loop-line
invariant-loop-line l =
    value_in l.key (drop (length l.yielded) (lines_in l.attributes)) ≡ value_in l.key (lines_in l.attributes)
