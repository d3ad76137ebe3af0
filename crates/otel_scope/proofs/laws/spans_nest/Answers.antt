use Rattle.otel_scope.proofs.Nested.{makes_within}
use Rattle.otel_scope.proofs.laws.spans_nest.Goals as goal

pub returns : goal.returns
returns g c = λ last spans old new forward makes.
    makes_within g.P.SpanProcessor g.S.ShouldSample g.G.GivesIds g.C.Now.tells last forward spans old new makes
