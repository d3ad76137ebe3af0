use Rattle.otel_picture.proofs.Circles.{one_head}
use Rattle.otel_picture.proofs.laws.circles_have_one_head.Goals as goal

pub returns : goal.returns
returns c = one_head
