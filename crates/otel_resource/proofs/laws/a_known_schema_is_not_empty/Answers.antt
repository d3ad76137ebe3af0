use Rattle.otel_resource.proofs.AttributeLemmas.{not_empty}
use Rattle.otel_resource.proofs.laws.a_known_schema_is_not_empty.Goals as goal

pub returns : goal.returns
returns c = λ r. not_empty r.schema_url
