use Rattle.std.proofs.lemmas.Grind.{common_steps}
use Rattle.std.proofs.Common.{rules, arith}
use Rattle.otel_float.specs.FloatText.{finite_text, short_text}
use Rattle.otel_float.proofs.text.push_finite.Goals as goal

pub returns : goal.returns
unfolding finite_text short_text
returns c = first_of (search rules, grind (arith, common_steps))
