use Rattle.otel_pipeline.proofs.AgreementLemmas.{child_under}
use Rattle.otel_pipeline.proofs.laws.starts_under_parents_make_children.Goals as goal

pub returns : goal.returns
returns g c = λ old new request history parent below by_parents.
    child_under g.P.SpanProcessor g.S.ShouldSample g.G.GivesIds old new request history parent below (λ question. by_parents question parent)
