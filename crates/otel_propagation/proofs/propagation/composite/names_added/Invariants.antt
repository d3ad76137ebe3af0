use Rattle.std.proofs.Common.{◌≡◌, ◌≤◌, length, take}
use Rattle.otel_propagation.specs.Composite.{joined_onto, names_of}
use Rattle.otel_propagation.proofs.propagation.composite.names_added.Given as goal

abbrev pub invariant-loop-added : goal.invariant-loop-added
invariant-loop-added l =
    (l.count ≤ length l.list) ×
    (joined_onto (take l.count (names_of l.list)) l.added-iterator ≡ joined_onto (take l.given (names_of l.list)) l.fn.names)
