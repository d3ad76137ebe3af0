use Rattle.otel_batch.proofs.Conserving.{run-conserves, run-loses_none}
use Rattle.otel_batch.proofs.laws.runs_lose_no_span.Goals as goal

pub returns-clause-any : goal.returns-clause-any
returns-clause-any g c = λ s t xs os run. run-conserves g.E.SpanExporter s xs os t run

pub returns-clause-new : goal.returns-clause-new
returns-clause-new g c = λ s t xs os first run. run-loses_none g.E.SpanExporter s xs os t first run
