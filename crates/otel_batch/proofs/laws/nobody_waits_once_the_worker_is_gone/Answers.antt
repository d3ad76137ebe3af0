use Rattle.otel_batch.proofs.PendingRequestLemmas.{gone-waits}
use Rattle.otel_batch.proofs.laws.nobody_waits_once_the_worker_is_gone.Goals as goal

pub returns : goal.returns
returns c = gone-waits
