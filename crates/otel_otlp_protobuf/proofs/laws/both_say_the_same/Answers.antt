use Rattle.otel_otlp_protobuf.proofs.SameJson.{request_same}
use Rattle.otel_otlp_protobuf.proofs.laws.both_say_the_same.Goals as goal

pub returns : goal.returns
returns c = request_same
