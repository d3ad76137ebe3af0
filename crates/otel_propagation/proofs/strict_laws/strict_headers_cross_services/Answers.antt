use Rattle.otel_propagation.proofs.StrictSound.{crosses}
use Rattle.otel_propagation.proofs.strict_laws.strict_headers_cross_services.Goals as goal

pub returns : goal.returns
returns c = crosses
