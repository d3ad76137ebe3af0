use Rattle.std.proofs.Common.{refl}
use Rattle.otel_batch.proofs.laws.a_step_is_a_run.Goals as goal

pub returns : goal.returns
returns g c = λ s t x o took. (t, took, refl)
