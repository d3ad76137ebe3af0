use Rattle.std.proofs.lemmas.Grind.{common_steps}
use Rattle.std.proofs.Common.{rules, arith}
use Rattle.otel_float.specs.FloatText.{reads_back}
use Rattle.otel_float.proofs.shortest.reads_back.Goals as goal

pub returns : goal.returns
unfolding reads_back
returns c = first_of (search rules, grind (arith, common_steps))
