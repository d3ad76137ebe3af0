use Rattle.std.proofs.Common.{refl}
use Rattle.otel_scope.proofs.Nested.{made_by_work}
use Rattle.otel_scope.proofs.laws.works_make_spans.Goals as goal

pub returns : goal.returns
returns g c = λ last within old new forward around.
    made_by_work g.P.SpanProcessor g.S.ShouldSample g.G.GivesIds g.C.Now.tells last forward within around.asked old
    around.entered around.left around.left.current.span old.current around.failed new around.is_now around.enters
    around.works refl around.leaves
