use Rattle.otel_picture.proofs.Levels.{levels_right}
use Rattle.otel_picture.proofs.laws.levels_count_ancestors.Goals as goal

pub returns : goal.returns
returns c = levels_right
