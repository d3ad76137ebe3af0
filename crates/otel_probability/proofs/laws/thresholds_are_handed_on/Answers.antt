use Rattle.otel_probability.proofs.States.{handed_on}
use Rattle.otel_probability.proofs.laws.thresholds_are_handed_on.Goals as goal

pub returns : goal.returns
returns c = handed_on
