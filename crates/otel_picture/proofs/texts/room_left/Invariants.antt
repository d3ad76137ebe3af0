-- What the characters so far leave.
use Rattle.std.proofs.Common.{◌≡◌}
use Rattle.otel_picture.specs.Texts.{room_left}
use Rattle.otel_picture.proofs.texts.room_left.Given as goal

abbrev pub invariant-loop-c : goal.invariant-loop-c
invariant-loop-c l = l.left ≡ room_left l.fn.room l.yielded
