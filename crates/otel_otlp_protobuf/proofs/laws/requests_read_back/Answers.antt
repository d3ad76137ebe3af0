use Rattle.otel_otlp_protobuf.proofs.Fitting.{request_fits}
use Rattle.otel_otlp_protobuf.specs.NamedRequest.{request_members}
use Rattle.otel_otlp_protobuf.specs.Said.{message_fields}
use Rattle.otel_protobuf.proofs.ReadingBack.{reads_message}
use Rattle.otel_protobuf.specs.Wire.{fields_of}
use Rattle.otel_otlp_protobuf.proofs.laws.requests_read_back.Goals as goal

pub returns : goal.returns
returns c =
    reads_message (fields_of (message_fields (request_members c.args.resource.now c.args.batch.now)))
    (request_fits c.args.resource.now c.args.batch.now c.resource_fits.ensures c.batch_fits.ensures)
