use Rattle.otel_batch.proofs.Runs.{run-parts}
use Rattle.otel_batch.proofs.laws.runs_are_split.Goals as goal

pub returns : goal.returns
returns g c = λ s t xs ys os run. run-parts g.E.SpanExporter s xs ys os t run
