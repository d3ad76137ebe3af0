use Rattle.std.proofs.Common.{◌∙◌}
use Rattle.otel_resource.proofs.AttributeLemmas.{by_key-clone, same_resource}
use Rattle.otel_resource.proofs.resource.parts.ResourcePartsClone.clone.Goals as goal

pub returns : goal.returns
returns c = record {
  cases = same_resource _ _ _ _ (by_key-clone c.self.inside.attributes c.in_ok-clone.field-0 c.in_ok-clone.ensures.cases) c.in_ok-clone-2.ensures.cases ∙ c.self.view_is;
}
