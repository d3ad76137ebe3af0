use Rattle.std.proofs.Common.{◌≡◌}
use Rattle.otel_propagation.specs.Composite.{joined_onto, names_of}
use Rattle.otel_propagation.proofs.propagation.composite_list.put_fields.Given as goal

abbrev pub invariant-loop-name : goal.invariant-loop-name
invariant-loop-name l = joined_onto (names_of l.fields.items) l.name-iterator ≡ joined_onto (names_of l.fn.fields.items) l.fn.names
