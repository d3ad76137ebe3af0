-- The first span of each id so far.
use Rattle.std.proofs.Common.{◌≡◌, ◌==◌, ℕ, position, take}
use Rattle.std.specs.BTreeMap.{get}
use Rattle.std.specs.Ordering.{nat_cmp}
use Rattle.otel_picture.proofs.families.first_of_ids.Given as goal

abbrev pub invariant-loop-span : goal.invariant-loop-span
invariant-loop-span l =
    (id : ℕ) → get nat_cmp l.spans id ≡ position (λ mark. mark.id == id) (take l.span l.marks)
