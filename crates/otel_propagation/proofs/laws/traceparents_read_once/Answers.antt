use Rattle.otel_propagation.proofs.TraceparentLemmas.{read_once}
use Rattle.otel_propagation.proofs.laws.traceparents_read_once.Goals as goal

pub returns : goal.returns
returns c = read_once
