-- The message, and then how many bytes it took.
use Rattle.otel_protobuf.proofs.Taking.{length_taken}
use Rattle.otel_otlp_protobuf.proofs.message.after_length.Goals as goal

pub returns : goal.returns
returns g c = length_taken c.left-end.result c.left-end.ensures c.write.ensures c.length_since.ensures
