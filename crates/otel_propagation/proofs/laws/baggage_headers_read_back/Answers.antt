use Rattle.otel_propagation.proofs.BaggageRoundTrip.{header_back}
use Rattle.otel_propagation.proofs.laws.baggage_headers_read_back.Goals as goal

pub returns : goal.returns
returns c = header_back
