use Rattle.std.proofs.lemmas.Grind.{common_steps}
use Rattle.std.proofs.Common.{rules, arith}
use Rattle.otel_float.specs.FloatText.{exponent}
use Rattle.otel_float.proofs.decimal.exponent.Goals as goal

pub returns-clause-value : goal.returns-clause-value
unfolding exponent
returns-clause-value c = first_of (search rules, grind (arith, common_steps))
