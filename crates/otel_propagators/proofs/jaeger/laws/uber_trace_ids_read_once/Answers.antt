use Rattle.otel_propagators.proofs.JaegerLemmas.{read_once}
use Rattle.otel_propagators.proofs.jaeger.laws.uber_trace_ids_read_once.Goals as goal

pub returns : goal.returns
returns c = read_once
