use Rattle.otel_probability.proofs.States.{erased}
use Rattle.otel_probability.proofs.laws.thresholds_are_erased.Goals as goal

pub returns : goal.returns
returns c = erased
