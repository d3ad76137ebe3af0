use Rattle.otel_pipeline.proofs.EndLemmas.{ends_unasked}
use Rattle.otel_pipeline.proofs.laws.second_ends_ask_nobody.Goals as goal

pub returns : goal.returns
returns g c = ends_unasked g.P.SpanProcessor
