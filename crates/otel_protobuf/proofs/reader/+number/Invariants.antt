use Rattle.otel_protobuf.proofs.reader.+number.Given as goal

abbrev pub decreases-number : goal.decreases-number
decreases-number l = l.more
