use Rattle.std.proofs.lemmas.Grind.{common_steps}
use Rattle.std.proofs.Common.{rules, arith}
use Rattle.otel_float.specs.FloatText.{exponent_text}
use Rattle.otel_float.proofs.layout.push_exponent.Goals as goal

pub returns-then-end-lt401 : goal.returns-then-end-lt401
unfolding exponent_text
returns-then-end-lt401 c = first_of (search rules, grind (arith, common_steps))

pub returns : goal.returns
unfolding exponent_text
returns c = first_of (search rules, grind (arith, common_steps))
