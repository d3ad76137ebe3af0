use Rattle.otel_batch.proofs.Working.{permitted-lessens}
use Rattle.otel_batch.proofs.laws.the_worker_lessens_its_work.Goals as goal

pub returns : goal.returns
returns c = permitted-lessens
