-- What is left gives the count.
use Rattle.std.proofs.Common.{◌≡◌}
use Rattle.std.specs.Prelude.{option_and_then}
use Rattle.otel_protobuf.specs.Reading.{read_64, read_fields}
use Rattle.otel_otlp_http.specs.ProtobufSuccess.{rejected_in, responses}
use Rattle.otel_otlp_http.proofs.protobuf.rejected_in_protobuf.Given as goal

abbrev pub invariant-fields : goal.invariant-fields
invariant-fields l =
    rejected_in l.fn.bytes ≡ option_and_then (responses l.count) (read_fields read_64 l.more l.rest)

abbrev pub decreases-fields : goal.decreases-fields
decreases-fields l = l.more
