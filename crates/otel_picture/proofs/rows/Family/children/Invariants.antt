-- The children among the spans so far.
use Rattle.std.proofs.Common.{take}
use Rattle.otel_picture.specs.Turns.{AreSplit}
use Rattle.otel_picture.proofs.rows.Family.children.Given as goal

abbrev pub invariant-loop-span : goal.invariant-loop-span
invariant-loop-span l = AreSplit l.self.parents.items (take l.span-index l.spans) l.children.items
