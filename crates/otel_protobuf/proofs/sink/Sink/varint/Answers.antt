-- One byte.
use Rattle.std.proofs.Common.{sym}
use Rattle.otel_protobuf.proofs.Taking.{as_bytes}
use Rattle.otel_protobuf.proofs.Varints.{small}
use Rattle.otel_protobuf.proofs.sink.Sink.varint.Goals as goal

pub returns-then-number-lt128 : goal.returns-then-number-lt128
returns-then-number-lt128 c = as_bytes (sym (small c.args.number c.if-number-lt128.true)) c.byte.ensures
