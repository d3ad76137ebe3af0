use Rattle.std.proofs.Common.{refl}
use Rattle.otel_probability.proofs.Sampled.{hops_agree}
use Rattle.otel_probability.proofs.laws.children_keep_the_threshold.Goals as goal

pub returns : goal.returns
returns c = λ root hops sampled consistent are.
    hops_agree root root hops sampled consistent (record { trace_id = refl; sampled = refl; trace_state = refl }) are
