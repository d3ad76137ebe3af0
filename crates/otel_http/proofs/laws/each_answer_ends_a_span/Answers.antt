use Rattle.otel_http.proofs.ConnectionLemmas.{answers_calls}
use Rattle.otel_http.proofs.laws.each_answer_ends_a_span.Goals as goal

pub returns : goal.returns
returns g c = answers_calls g.P.SpanProcessor g.S.ShouldSample g.G.GivesIds g.C.Now.tells
    g.T.TextMapPropagator.inject_gives g.T.TextMapPropagator.extract_gives g.V.TracedService.serves
