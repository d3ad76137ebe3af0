use Rattle.otel_resource.proofs.AttributeLemmas.{union_assoc}
use Rattle.otel_resource.proofs.laws.merged_attributes_are_associative.Goals as goal

pub returns : goal.returns
returns c = λ a b d. union_assoc a.attributes b.attributes d.attributes
