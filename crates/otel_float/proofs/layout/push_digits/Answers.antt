use Rattle.std.proofs.lemmas.Grind.{common_steps}
use Rattle.std.proofs.Common.{rules, arith}
use Rattle.otel_float.specs.FloatText.{layout}
use Rattle.otel_float.proofs.layout.push_digits.Goals as goal

pub returns-then-end : goal.returns-then-end
unfolding layout
returns-then-end c = first_of (search rules, grind (arith, common_steps))

pub returns-then-end-lt401 : goal.returns-then-end-lt401
unfolding layout
returns-then-end-lt401 c = first_of (search rules, grind (arith, common_steps))

pub returns-then-power-lt400 : goal.returns-then-power-lt400
unfolding layout
returns-then-power-lt400 c = first_of (search rules, grind (arith, common_steps))

pub returns : goal.returns
unfolding layout
returns c = first_of (search rules, grind (arith, common_steps))
