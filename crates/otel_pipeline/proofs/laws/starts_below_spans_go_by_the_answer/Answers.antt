use Rattle.otel_pipeline.proofs.AgreementLemmas.{answered_under}
use Rattle.otel_pipeline.proofs.laws.starts_below_spans_go_by_the_answer.Goals as goal

pub returns : goal.returns
returns g c = answered_under g.P.SpanProcessor g.S.ShouldSample g.G.GivesIds
