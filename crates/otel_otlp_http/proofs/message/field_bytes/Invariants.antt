-- What is left gives the bytes.
use Rattle.std.proofs.Common.{◌≡◌}
use Rattle.std.specs.Prelude.{option_map}
use Rattle.otel_protobuf.specs.Reading.{read_64, read_fields}
use Rattle.otel_otlp_http.specs.Messages.{field_bytes, last_bytes}
use Rattle.otel_otlp_http.proofs.message.field_bytes.Given as goal

abbrev pub invariant-fields : goal.invariant-fields
invariant-fields l =
    field_bytes l.fn.wanted l.fn.bytes
    ≡ option_map (last_bytes l.fn.wanted l.last) (read_fields read_64 l.more l.rest)

abbrev pub decreases-fields : goal.decreases-fields
decreases-fields l = l.more
