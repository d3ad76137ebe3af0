use Rattle.std.proofs.Common.{◌+◌, ◌*◌, ◌/◌, ◌^◌}
use Rattle.std.proofs.lemmas.Bool.{leb-true, le-leb}
use Rattle.otel_sampling.specs.Ratio.{low_half}
use Rattle.otel_sampling.proofs.RatioLemmas.{larger_samples}
use Rattle.otel_sampling.proofs.laws.larger_ratios_sample_more.Goals as goal

pub returns : goal.returns
returns c = λ r s trace_id positive larger sampled.
    let place = low_half trace_id / 2 + 1 in
    le-leb (place * s.denominator) (s.numerator * 2 ^ 63)
    (larger_samples place r.numerator r.denominator s.numerator s.denominator (2 ^ 63) positive larger
    (leb-true (place * r.denominator) (r.numerator * 2 ^ 63) sampled))
