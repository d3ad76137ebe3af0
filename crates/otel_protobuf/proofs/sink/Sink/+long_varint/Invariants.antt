use Rattle.otel_protobuf.proofs.sink.Sink.+long_varint.Given as goal

abbrev pub decreases-long_varint : goal.decreases-long_varint
decreases-long_varint l = l.number
