-- The spans so far.
use Rattle.std.proofs.Common.{◌≡◌, is_none, map, take}
use Rattle.otel_picture.proofs.rows.Family.parentless.Given as goal

abbrev pub invariant-loop-parent : goal.invariant-loop-parent
invariant-loop-parent l = l.tops.items ≡ map is_none (take l.parent-index l.self.parents.items)
