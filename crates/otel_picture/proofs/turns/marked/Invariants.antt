-- The marked ones so far.
use Rattle.std.proofs.Common.{◌≡◌, false, get_or, take}
use Rattle.std.specs.List.{filter}
use Rattle.otel_picture.proofs.turns.marked.Given as goal

abbrev pub invariant-loop-span : goal.invariant-loop-span
invariant-loop-span l = l.marked.items ≡ filter (λ span. get_or l.marks span false) (take l.span-index l.spans)
