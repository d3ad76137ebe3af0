use Rattle.std.proofs.Common.{◌≡◌, ◌+◌, ◌-◌, ◌^◌, min, length, map}
use Rattle.opentelemetry.specs.Baggage.{plain_item}
use Rattle.otel_propagation.proofs.BaggageTextLemmas.{members_bytes}
use Rattle.otel_propagation.proofs.propagation.baggage.write.header_len.Given as goal

abbrev pub invariant-entries : goal.invariant-entries
invariant-entries l = l.len ≡ min (length l.baggage - 1 + members_bytes (map plain_item l.yielded)) (2 ^ 64 - 1)
