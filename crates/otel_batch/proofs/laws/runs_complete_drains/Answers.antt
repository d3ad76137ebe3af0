use Rattle.otel_batch.proofs.Draining.{run-completes}
use Rattle.otel_batch.proofs.laws.runs_complete_drains.Goals as goal

pub returns : goal.returns
returns g c = λ s t xs os sound run. run-completes g.E.SpanExporter s xs os t sound run
