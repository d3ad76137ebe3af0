use Rattle.std.proofs.lemmas.Grind.{common_steps}
use Rattle.std.proofs.Common.{rules, arith}
use Rattle.otel_float.specs.FloatText.{significand}
use Rattle.otel_float.proofs.decimal.significand.Goals as goal

pub returns-then-bits-lt-NORMAL-clause-value : goal.returns-then-bits-lt-NORMAL-clause-value
unfolding significand
returns-then-bits-lt-NORMAL-clause-value c = first_of (search rules, grind (arith, common_steps))

pub returns-else-bits-lt-NORMAL-clause-value : goal.returns-else-bits-lt-NORMAL-clause-value
unfolding significand
returns-else-bits-lt-NORMAL-clause-value c = first_of (search rules, grind (arith, common_steps))
