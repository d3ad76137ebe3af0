use Rattle.std.proofs.Common.{[], ◌∷◌, sym}
use Rattle.otel_resource.specs.Resource.{by_key}
use Rattle.otel_resource.proofs.AttributeLemmas.{union-empty, put_pair}
use Rattle.otel_resource.proofs.resource.telemetry.put_telemetry.Goals as goal

pub returns : goal.returns
returns c =
    let base = by_key c.args.attributes.now in
    let first = put_pair base base _ [] _ c.in_ok-put_constant.ensures (sym (union-empty base)) in
    let second = put_pair base _ _ (_ ∷ []) _ c.in_ok-put_constant-2.ensures first in
    put_pair base _ _ (_ ∷ _ ∷ []) _ c.in_ok-put_constant-3.ensures second
