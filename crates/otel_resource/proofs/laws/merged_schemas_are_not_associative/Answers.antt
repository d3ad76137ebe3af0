use Rattle.std.proofs.Common.{refl}
use Rattle.otel_resource.proofs.laws.merged_schemas_are_not_associative.Goals as goal

pub returns : goal.returns
returns c = (refl, refl)
