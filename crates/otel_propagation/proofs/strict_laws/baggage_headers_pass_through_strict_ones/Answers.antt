use Rattle.otel_propagation.proofs.StrictPassing.{passed_on, passed_back}
use Rattle.otel_propagation.proofs.strict_laws.baggage_headers_pass_through_strict_ones.Goals as goal

pub returns : goal.returns
returns c = record { same = passed_on; back = passed_back }
