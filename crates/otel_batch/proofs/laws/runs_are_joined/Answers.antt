use Rattle.otel_batch.proofs.Runs.{run-joins}
use Rattle.otel_batch.proofs.laws.runs_are_joined.Goals as goal

pub returns : goal.returns
returns g c = λ s m t xs ys os ps first second. run-joins g.E.SpanExporter s xs os m ys ps t first second
