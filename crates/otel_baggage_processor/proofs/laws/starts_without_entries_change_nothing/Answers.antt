use Rattle.otel_baggage_processor.proofs.Beginnings.{none_set}
use Rattle.otel_baggage_processor.proofs.laws.starts_without_entries_change_nothing.Goals as goal

pub returns : goal.returns
returns g c = λ old new before after cx h few none. none_set g.K.KeyFilter.takes old new before after cx h few none
