use Rattle.otel_batch.proofs.Draining.{load-covers, load-fits}
use Rattle.otel_batch.proofs.laws.targets_cover_what_waits.Goals as goal

pub returns-clause-covers : goal.returns-clause-covers
returns-clause-covers c = load-covers

pub returns-clause-fits : goal.returns-clause-fits
returns-clause-fits c = load-fits
