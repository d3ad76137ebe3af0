-- The bytes are read as one list of fields, which says the request, and that loses nothing.
use Rattle.otel_otlp_protobuf.proofs.RequestsAlike.{same_requests}
use Rattle.otel_otlp_protobuf.proofs.laws.bytes_lose_nothing.Goals as goal

pub returns-clause-once : goal.returns-clause-once
returns-clause-once c = λ these those batch other fits others_fit.
    same_requests these those fits.0 others_fit.0 batch other fits.1 others_fit.1

pub returns-clause-seen : goal.returns-clause-seen
returns-clause-seen c = λ these those batch other fits others_fit same.
    c.json_loses_nothing.ensures these those batch other fits others_fit
    (same_requests these those fits.0 others_fit.0 batch other fits.1 others_fit.1 same)
