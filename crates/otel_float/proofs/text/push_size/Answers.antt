use Rattle.std.proofs.lemmas.Grind.{common_steps}
use Rattle.std.proofs.Common.{rules, arith}
use Rattle.otel_float.specs.FloatText.{size_text}
use Rattle.otel_float.proofs.text.push_size.Goals as goal

pub returns-then-bits-eq0 : goal.returns-then-bits-eq0
unfolding size_text
returns-then-bits-eq0 c = first_of (search rules, grind (arith, common_steps))

pub returns-then-bits-lt-INFINITY : goal.returns-then-bits-lt-INFINITY
unfolding size_text
returns-then-bits-lt-INFINITY c = first_of (search rules, grind (arith, common_steps))

pub returns-else-bits-lt-INFINITY : goal.returns-else-bits-lt-INFINITY
unfolding size_text
returns-else-bits-lt-INFINITY c = first_of (search rules, grind (arith, common_steps))
