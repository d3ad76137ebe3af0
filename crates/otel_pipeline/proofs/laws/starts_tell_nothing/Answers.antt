use Rattle.otel_pipeline.proofs.Starting.{answers_rest, answers_told}
use Rattle.otel_pipeline.proofs.laws.starts_tell_nothing.Goals as goal

pub returns : goal.returns
returns g c = record {
  told = answers_told g.P.SpanProcessor g.S.ShouldSample g.G.GivesIds;
  rest = answers_rest g.P.SpanProcessor g.S.ShouldSample g.G.GivesIds;
}
