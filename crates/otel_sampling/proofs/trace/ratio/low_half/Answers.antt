use Rattle.otel_sampling.proofs.RatioLemmas.{low_half_of}
use Rattle.otel_sampling.proofs.trace.ratio.low_half.Goals as goal

pub returns : goal.returns
returns c = low_half_of c.args.trace_id c.from_be_bytes.result c.to_bytes.result c.to_bytes.ensures c.from_be_bytes.ensures
