use Rattle.otel_protobuf.proofs.ReadingBack.{reads_message}
use Rattle.otel_protobuf.proofs.laws.messages_read_back.Goals as goal

pub returns : goal.returns
returns c = reads_message
