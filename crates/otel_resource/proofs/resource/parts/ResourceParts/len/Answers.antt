use Rattle.std.proofs.Common.{sym, ap, ◌∙◌}
use Rattle.std.specs.FinMap as fin
use Rattle.otel_resource.specs.Resource.{PlainResource}
use Rattle.otel_resource.proofs.AttributeLemmas.{len-by_key}
use Rattle.otel_resource.proofs.resource.parts.ResourceParts.len.Goals as goal

pub returns : goal.returns
returns c =
    c.len.ensures.len ∙ sym (len-by_key c.self.inside.attributes c.len.ensures.ordered) ∙ ap (λ (r : PlainResource). fin.len r.attributes) c.self.view_is
