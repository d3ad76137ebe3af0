use Rattle.std.proofs.Common.{sym, ap, ◌∙◌}
use Rattle.std.specs.FinMap as fin
use Rattle.opentelemetry.specs.Plain.{PlainValue}
use Rattle.otel_resource.specs.Resource.{PlainResource, shared_resource}
use Rattle.otel_resource.proofs.AttributeLemmas.{key_cmp}
use Rattle.otel_resource.proofs.resource.Resource.len.Goals as goal

pub returns-in-None : goal.returns-in-None
returns-in-None c =
    sym (fin.len-empty key_cmp PlainValue) ∙ ap (λ (r : PlainResource). fin.len r.attributes) (ap shared_resource (sym c.in-None.is) ∙ c.self.view_is)
