use Rattle.std.proofs.Common.{◌≡◌, map, string_bytes}
use Rattle.opentelemetry.specs.Baggage.{plain_item}
use Rattle.otel_propagation.specs.StrictBaggage.{strict_header_of}
use Rattle.otel_propagation.proofs.propagation.strict_baggage.write.header_of.Given as goal

abbrev pub invariant-entries : goal.invariant-entries
invariant-entries l = string_bytes l.header ≡ strict_header_of (map plain_item l.yielded)
