use Rattle.otel_probability.proofs.Digits.{randomness_is_read, randomness_was_written, threshold_is_read, threshold_was_written}
use Rattle.otel_probability.proofs.laws.what_is_written_is_read.Goals as goal

pub returns-clause-thresholds : goal.returns-clause-thresholds
returns-clause-thresholds c = λ text threshold. (threshold_is_read text threshold, threshold_was_written text threshold)

pub returns-clause-randomness : goal.returns-clause-randomness
returns-clause-randomness c = λ text randomness. (randomness_is_read text randomness, randomness_was_written text randomness)
