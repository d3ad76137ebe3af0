use Rattle.otel_resource.proofs.AttributeLemmas.{distinct_keys}
use Rattle.otel_resource.proofs.laws.keys_are_distinct.Goals as goal

pub returns : goal.returns
returns c = λ r. distinct_keys r.attributes
