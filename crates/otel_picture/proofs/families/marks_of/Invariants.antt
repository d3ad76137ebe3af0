-- The marks so far.
use Rattle.std.proofs.Common.{◌≡◌, take}
use Rattle.otel_picture.specs.Families.{marks_at}
use Rattle.otel_picture.proofs.families.marks_of.Given as goal

abbrev pub invariant-loop-place : goal.invariant-loop-place
invariant-loop-place l = l.marks.items ≡ marks_at l.spans (take l.place-index l.places)
