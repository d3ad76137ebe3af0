use Rattle.std.proofs.Common.{◌≡◌, Some, sym, ◌∙◌}
use Rattle.otel_probability.proofs.Digits.{randomness_is_read, threshold_is_read}
use Rattle.otel_probability.proofs.laws.texts_write_one_number.Goals as goal

pub returns-clause-thresholds : goal.returns-clause-thresholds
returns-clause-thresholds c = λ text one other this that.
    let same : Some one ≡ Some other = sym (threshold_is_read text one this) ∙ threshold_is_read text other that in cc

pub returns-clause-randomness : goal.returns-clause-randomness
returns-clause-randomness c = λ text one other this that.
    let same : Some one ≡ Some other = sym (randomness_is_read text one this) ∙ randomness_is_read text other that in cc
