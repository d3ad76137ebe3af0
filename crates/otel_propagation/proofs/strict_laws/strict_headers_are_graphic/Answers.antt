use Rattle.otel_propagation.proofs.StrictGraphic.{written_is_graphic}
use Rattle.otel_propagation.proofs.strict_laws.strict_headers_are_graphic.Goals as goal

pub returns : goal.returns
returns c = written_is_graphic
