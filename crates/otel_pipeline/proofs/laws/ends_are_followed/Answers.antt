use Rattle.otel_pipeline.proofs.EndLemmas.{ends_followed}
use Rattle.otel_pipeline.proofs.laws.ends_are_followed.Goals as goal

pub returns : goal.returns
returns g c = ends_followed g.P.SpanProcessor
