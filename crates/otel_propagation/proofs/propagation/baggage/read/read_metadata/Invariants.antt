use Rattle.std.proofs.Common.{map, string_bytes}
use Rattle.otel_propagation.proofs.BaggagePieceLemmas.{Gathers}
use Rattle.otel_propagation.proofs.propagation.baggage.read.read_metadata.Given as goal

abbrev pub invariant-properties : goal.invariant-properties
invariant-properties l = Gathers (map (λ x. x.now) l.yielded) l.is_first (string_bytes l.metadata)
