use Rattle.std.proofs.Common.{arith}
use Rattle.otel_probability.proofs.Digits.{threshold_reads_back}
use Rattle.otel_probability.proofs.laws.thresholds_read_back.Goals as goal

pub returns : goal.returns
returns c = λ threshold small. threshold_reads_back threshold (omega arith)
