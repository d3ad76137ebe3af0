use Rattle.otel_pipeline.proofs.EndLemmas.{ends_whole}
use Rattle.otel_pipeline.proofs.laws.ends_deliver_histories.Goals as goal

pub returns : goal.returns
returns g c = ends_whole g.P.SpanProcessor
