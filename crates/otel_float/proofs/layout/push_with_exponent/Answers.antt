use Rattle.std.proofs.lemmas.Grind.{common_steps}
use Rattle.std.proofs.Common.{rules, arith}
use Rattle.otel_float.specs.FloatText.{with_exponent}
use Rattle.otel_float.proofs.layout.push_with_exponent.Goals as goal

pub returns : goal.returns
unfolding with_exponent
returns c = first_of (search rules, grind (arith, common_steps))
