use Rattle.otel_propagation.proofs.StrictSound.{read_stays}
use Rattle.otel_propagation.proofs.strict_laws.strict_entries_are_written_as_read.Goals as goal

pub returns : goal.returns
returns c = read_stays
