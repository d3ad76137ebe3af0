use Rattle.std.proofs.Common.{map, string_bytes}
use Rattle.otel_propagation.proofs.StrictPairs.{ArePushed}
use Rattle.otel_propagation.proofs.propagation.strict_baggage.pairs.push_properties.Given as goal

abbrev pub invariant-properties : goal.invariant-properties
invariant-properties l = ArePushed (map (λ x. x.now) l.yielded) l.initial.is_first l.is_first (string_bytes l.initial.text) (string_bytes l.text)
