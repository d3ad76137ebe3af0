use Rattle.otel_propagation.proofs.StrictReads.{header_reads}
use Rattle.otel_propagation.proofs.strict_laws.strict_headers_are_read.Goals as goal

pub returns : goal.returns
returns c = header_reads
