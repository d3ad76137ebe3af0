use Rattle.otel_batch.proofs.Working.{run-works}
use Rattle.otel_batch.proofs.laws.runs_bound_the_worker.Goals as goal

pub returns : goal.returns
returns g c = λ s t xs os run. run-works g.E.SpanExporter s xs os t run
