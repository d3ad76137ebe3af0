use Rattle.otel_resource.proofs.AttributeLemmas.{same_resource, union_same, merged_schema-same}
use Rattle.otel_resource.proofs.laws.merge_is_idempotent.Goals as goal

pub returns : goal.returns
returns c = λ r. same_resource _ _ _ _ (union_same r.attributes) (merged_schema-same r.schema_url)
