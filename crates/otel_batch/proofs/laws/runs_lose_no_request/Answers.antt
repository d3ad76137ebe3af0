use Rattle.otel_batch.proofs.PendingRequestLemmas.{run-knows}
use Rattle.otel_batch.proofs.laws.runs_lose_no_request.Goals as goal

pub returns : goal.returns
returns g c = λ s t xs os sound run. run-knows g.E.SpanExporter s xs os t sound run
