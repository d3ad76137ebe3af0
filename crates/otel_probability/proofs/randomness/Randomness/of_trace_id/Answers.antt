use Rattle.std.proofs.Common.{◌≡◌, ◌%◌, ◌^◌, arith}
use Rattle.otel_sampling.proofs.RatioLemmas.{low_half_of}
use Rattle.otel_probability.proofs.randomness.Randomness.of_trace_id.Goals as goal

pub returns : goal.returns
returns c =
    let low : c.from_be_bytes.result ≡ c.args.trace_id % 2 ^ 64 = low_half_of c.args.trace_id c.from_be_bytes.result c.to_bytes.result c.to_bytes.ensures c.from_be_bytes.ensures in
    omega (arith, low)
