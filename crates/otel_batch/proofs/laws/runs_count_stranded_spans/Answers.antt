use Rattle.otel_batch.proofs.Stranding.{run-counts, run-keeps_stranded, run-strands}
use Rattle.otel_batch.proofs.laws.runs_count_stranded_spans.Goals as goal

pub returns-clause-any : goal.returns-clause-any
returns-clause-any g c = λ s t xs os run. run-strands g.E.SpanExporter s xs os t run

pub returns-clause-new : goal.returns-clause-new
returns-clause-new g c = λ s t xs os first run. run-counts g.E.SpanExporter s xs os t first run

pub returns-clause-stays : goal.returns-clause-stays
returns-clause-stays g c = λ s t xs os sound run closed.
    run-keeps_stranded g.E.SpanExporter s xs os t sound run closed
