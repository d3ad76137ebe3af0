use Rattle.otel_protobuf.proofs.Narrowing.{narrow_reading}
use Rattle.otel_protobuf.proofs.laws.programs_read_the_grammar.Goals as goal

pub returns : goal.returns
returns c = narrow_reading
