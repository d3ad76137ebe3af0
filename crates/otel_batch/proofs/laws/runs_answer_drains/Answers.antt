use Rattle.otel_batch.proofs.Answering.{run-answers}
use Rattle.otel_batch.proofs.laws.runs_answer_drains.Goals as goal

pub returns : goal.returns
returns g c = λ s t xs os sound run. run-answers g.E.SpanExporter s xs os t sound run
