use Rattle.otel_picture.proofs.Pieces.{escaped_pieces}
use Rattle.otel_picture.proofs.laws.escapes_are_pieces.Goals as goal

pub returns : goal.returns
returns c = escaped_pieces
