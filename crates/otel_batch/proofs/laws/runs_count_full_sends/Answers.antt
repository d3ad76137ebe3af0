use Rattle.otel_batch.proofs.Conserving.{run-drops}
use Rattle.otel_batch.proofs.laws.runs_count_full_sends.Goals as goal

pub returns : goal.returns
returns g c = λ s t xs os sound run. run-drops g.E.SpanExporter s xs os t sound.fits.dropped_fits run
