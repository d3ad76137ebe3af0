use Rattle.std.proofs.Common.{sym, ap, ◌∙◌}
use Rattle.std.specs.FinMap as fin
use Rattle.otel_resource.specs.Resource.{PlainResource, shared_resource}
use Rattle.otel_resource.proofs.AttributeLemmas.{entries-empty}
use Rattle.otel_resource.proofs.resource.Resource.iter.Goals as goal

pub returns-in-None : goal.returns-in-None
returns-in-None c =
    sym entries-empty ∙ ap (λ (r : PlainResource). fin.entries r.attributes) (ap shared_resource (sym c.in-None.is) ∙ c.self.view_is)
