-- The rest of the number, and then its lowest bits.
use Rattle.std.proofs.Common.{sym}
use Rattle.otel_protobuf.proofs.Taking.{and_then, as_bytes}
use Rattle.otel_protobuf.proofs.Varints.{large, small}
use Rattle.otel_protobuf.proofs.sink.Sink.+long_varint.Goals as goal

pub returns-then-number-lt128 : goal.returns-then-number-lt128
returns-then-number-lt128 t c = as_bytes (sym (small c.args.number c.if-number-lt128.true)) c.byte.ensures

pub returns-else-number-lt128 : goal.returns-else-number-lt128
returns-else-number-lt128 t c =
    as_bytes (sym (large c.args.number c.if-number-lt128.false))
    (and_then c.byte-else-number-lt128.ensures c.long_varint.ensures)
