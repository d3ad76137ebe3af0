use Rattle.std.proofs.Common.{sym, ap, ◌∙◌}
use Rattle.std.specs.FinMap as fin
use Rattle.otel_resource.specs.Resource.{PlainResource, shared_resource}
use Rattle.otel_resource.proofs.AttributeLemmas.{key_cmp}
use Rattle.otel_resource.proofs.resource.Resource.get_ref.Goals as goal

pub returns-in-None : goal.returns-in-None
returns-in-None c =
    sym (fin.get-empty key_cmp c.args.key.now)
    ∙ ap (λ (r : PlainResource). fin.get r.attributes c.args.key.now) (ap shared_resource (sym c.in-None.is) ∙ c.self.view_is)
