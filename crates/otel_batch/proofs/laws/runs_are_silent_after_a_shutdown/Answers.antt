use Rattle.otel_batch.proofs.Silence.{run-silent, run-stays_silent}
use Rattle.otel_batch.proofs.laws.runs_are_silent_after_a_shutdown.Goals as goal

pub returns-clause-within : goal.returns-clause-within
returns-clause-within g c = λ s t xs os run. run-silent g.E.SpanExporter s xs os t run

pub returns-clause-before : goal.returns-clause-before
returns-clause-before g c = λ s t xs os sound run closed. run-stays_silent g.E.SpanExporter s xs os t sound run closed
