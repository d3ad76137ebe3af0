use Rattle.otel_resource.proofs.AttributeLemmas.{get-union}
use Rattle.otel_resource.proofs.laws.the_right_one_wins.Goals as goal

pub returns : goal.returns
returns c = λ left right key. get-union left.attributes right.attributes key
