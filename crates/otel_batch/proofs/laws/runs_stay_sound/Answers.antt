use Rattle.otel_batch.proofs.Runs.{run-sound}
use Rattle.otel_batch.proofs.laws.runs_stay_sound.Goals as goal

pub returns : goal.returns
returns g c = λ s t xs os sound run. run-sound g.E.SpanExporter s xs os t sound run
