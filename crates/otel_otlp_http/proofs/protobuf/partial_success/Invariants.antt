-- What is left gives the count.
use Rattle.std.proofs.Common.{◌≡◌}
use Rattle.std.specs.Prelude.{option_map}
use Rattle.otel_protobuf.specs.Reading.{read_64, read_fields}
use Rattle.otel_otlp_http.specs.ProtobufSuccess.{counts, partial_count}
use Rattle.otel_otlp_http.proofs.protobuf.partial_success.Given as goal

abbrev pub invariant-fields : goal.invariant-fields
invariant-fields l =
    partial_count l.fn.before l.fn.bytes ≡ option_map (counts l.count) (read_fields read_64 l.more l.rest)

abbrev pub decreases-fields : goal.decreases-fields
decreases-fields l = l.more
