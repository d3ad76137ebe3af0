use Rattle.otel_otlp.proofs.BatchesAlike.{requests_alike}
use Rattle.otel_otlp.proofs.laws.json_loses_nothing.Goals as goal

pub returns : goal.returns
returns c = λ these those batch other fits others_fit.
    requests_alike these those batch other fits.0 others_fit.0 fits.1 others_fit.1
