use Rattle.otel_baggage_processor.proofs.Beginnings.{all_set}
use Rattle.otel_baggage_processor.proofs.laws.uncounted_starts_set_all.Goals as goal

pub returns : goal.returns
returns g c = λ old new before after cx h few same. all_set g.K.KeyFilter.takes old new before after cx h few same
