use Rattle.otel_probability.proofs.Sampled.{keeps_more}
use Rattle.otel_probability.proofs.laws.greater_probabilities_keep_more.Goals as goal

pub returns : goal.returns
returns c = keeps_more
