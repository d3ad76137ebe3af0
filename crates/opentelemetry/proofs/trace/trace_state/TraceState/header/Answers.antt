use Rattle.opentelemetry.proofs.WellFormed.{header_reads_back}
use Rattle.opentelemetry.proofs.trace.trace_state.TraceState.header.Goals as goal

pub returns-clause-reads_back : goal.returns-clause-reads_back
returns-clause-reads_back c = header_reads_back c.args.self.now c.entries.ensures.pairs
