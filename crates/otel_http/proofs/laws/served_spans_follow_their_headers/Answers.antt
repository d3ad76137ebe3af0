use Rattle.otel_http.proofs.ServingLemmas.{served_as}
use Rattle.otel_http.proofs.laws.served_spans_follow_their_headers.Goals as goal

pub returns : goal.returns
returns g c = λ old new request cx response served.
    served_as g.P.SpanProcessor g.S.ShouldSample g.G.GivesIds g.C.Now.tells g.T.TextMapPropagator.inject_gives
    g.T.TextMapPropagator.extract_gives g.V.TracedService.serves cx old new request response served
