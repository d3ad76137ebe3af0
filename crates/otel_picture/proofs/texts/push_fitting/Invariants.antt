-- The characters so far that find place were appended.
use Rattle.std.proofs.Common.{◌≡◌, ◌++◌, string_bytes}
use Rattle.otel_picture.specs.Texts.{fitting_text, room_left}
use Rattle.otel_picture.proofs.texts.push_fitting.Given as goal

abbrev pub invariant-loop-c : goal.invariant-loop-c
invariant-loop-c l = record {
  left : l.left ≡ room_left l.fn.room l.yielded;
  text : string_bytes l.out ≡ string_bytes l.fn.out ++ fitting_text l.fn.room l.yielded;
}
