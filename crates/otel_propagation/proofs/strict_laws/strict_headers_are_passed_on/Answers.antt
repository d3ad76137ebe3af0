use Rattle.otel_propagation.proofs.StrictHeaders.{header_passed_on}
use Rattle.otel_propagation.proofs.strict_laws.strict_headers_are_passed_on.Goals as goal

pub returns : goal.returns
returns c = header_passed_on
