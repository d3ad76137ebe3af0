-- What the parts from a place on answer, the lists answer.
use Rattle.std.proofs.Common.{◌≡◌, ◌-◌, ◌≤◌, length, drop}
use Rattle.std.specs.Cmp.Lexicographic.{pointwise}
use Rattle.opentelemetry.specs.Same.{same_float}
use Rattle.opentelemetry.proofs.common.float.same_floats.Given as goal

abbrev pub invariant-loop-place : goal.invariant-loop-place
invariant-loop-place l =
    (length l.these ≡ length l.those)
    × ((l.place ≤ length l.these)
    × (pointwise same_float (drop l.place l.these) (drop l.place l.those) ≡ pointwise same_float l.these l.those))
