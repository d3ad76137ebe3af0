use Rattle.std.proofs.Common.{◌+◌, ◌*◌, ◌/◌, ◌^◌, ap}
use Rattle.std.specs.Prelude.{nat_le}
use Rattle.otel_sampling.proofs.laws.low_halves_decide.Goals as goal

pub returns : goal.returns
returns c = λ r one other same.
    ap (λ low. nat_le ((low / 2 + 1) * r.denominator) (r.numerator * 2 ^ 63)) same
