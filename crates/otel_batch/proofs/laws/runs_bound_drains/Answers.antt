use Rattle.otel_batch.proofs.Bounding.{run-bounds, run-fits}
use Rattle.otel_batch.proofs.laws.runs_bound_drains.Goals as goal

pub returns-clause-bounded : goal.returns-clause-bounded
returns-clause-bounded g c = λ s t xs os sound run. run-bounds g.E.SpanExporter s xs os t sound run

pub returns-clause-batches : goal.returns-clause-batches
returns-clause-batches g c = λ s t xs os sound run. run-fits g.E.SpanExporter s xs os t sound run
