use Rattle.otel_resource.proofs.AttributeLemmas.{merge-nothing, merge-nothing_left}
use Rattle.otel_resource.proofs.laws.merge_has_an_identity.Goals as goal

pub returns-clause-left : goal.returns-clause-left
returns-clause-left c = merge-nothing_left

pub returns-clause-right : goal.returns-clause-right
returns-clause-right c = merge-nothing
