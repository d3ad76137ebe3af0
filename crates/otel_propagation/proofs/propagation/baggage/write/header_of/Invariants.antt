use Rattle.std.proofs.Common.{map, string_bytes}
use Rattle.opentelemetry.specs.Baggage.{plain_item}
use Rattle.otel_propagation.proofs.BaggageTextLemmas.{IsWritten}
use Rattle.otel_propagation.proofs.propagation.baggage.write.header_of.Given as goal

abbrev pub invariant-entries : goal.invariant-entries
invariant-entries l = IsWritten (map plain_item l.yielded) (string_bytes l.header)
