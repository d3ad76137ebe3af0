-- The key, and then the number.
use Rattle.otel_protobuf.specs.Wire.{varint}
use Rattle.otel_protobuf.proofs.Taking.{one_field}
use Rattle.otel_protobuf.proofs.sink.Sink.varint_field.Goals as goal

pub returns : goal.returns
returns c = one_field c.args.number (varint c.args.value) c.key.ensures c.varint.ensures
