-- The rows that are done and those that wait.
use Rattle.std.proofs.Common.{◌-◌, vec_len}
use Rattle.otel_picture.specs.Turns.{plain_waiting}
use Rattle.otel_picture.proofs.Turning.{IsUnderWay}
use Rattle.otel_picture.proofs.rows.rows.Given as goal

abbrev pub invariant-loop-row : goal.invariant-loop-row
invariant-loop-row l = IsUnderWay l.family.marks.items l.family.parents.items l.rows.items (plain_waiting l.waiting)

abbrev pub decreases-loop-row : goal.decreases-loop-row
decreases-loop-row l = l.count - vec_len l.rows
