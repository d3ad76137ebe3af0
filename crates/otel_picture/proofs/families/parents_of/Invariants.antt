-- The parents so far.
use Rattle.std.proofs.Common.{◌≡◌, map, take}
use Rattle.otel_picture.specs.Families.{parent_in}
use Rattle.otel_picture.proofs.families.parents_of.Given as goal

abbrev pub invariant-loop-mark : goal.invariant-loop-mark
invariant-loop-mark l = l.parents.items ≡ map (parent_in l.marks) (take l.mark-index l.marks)
