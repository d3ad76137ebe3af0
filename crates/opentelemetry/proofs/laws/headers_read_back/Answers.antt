use Rattle.opentelemetry.proofs.WellFormed.{header_reads_back}
use Rattle.opentelemetry.proofs.laws.headers_read_back.Goals as goal

pub returns : goal.returns
returns c = header_reads_back
