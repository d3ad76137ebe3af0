-- The spans so far.
use Rattle.otel_picture.proofs.Sorting.{AreBelow}
use Rattle.otel_picture.proofs.rows.Family.last_first.Given as goal

abbrev pub invariant-loop-span : goal.invariant-loop-span
invariant-loop-span l = AreBelow l.span l.spans.items
