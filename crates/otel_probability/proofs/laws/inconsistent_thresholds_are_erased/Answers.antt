use Rattle.std.proofs.Common.{ap, ◌∙◌}
use Rattle.otel_probability.specs.Entry.{threshold_in}
use Rattle.otel_probability.proofs.Sampled.{inconsistent_child}
use Rattle.otel_probability.proofs.States.{erased}
use Rattle.otel_probability.proofs.laws.inconsistent_thresholds_are_erased.Goals as goal

pub returns : goal.returns
returns c = λ span trace_id sampled other.
    let answer = inconsistent_child span trace_id sampled other in
    (ap (λ a. a.decision) answer, ap (λ a. threshold_in a.trace_state) answer ∙ erased span.trace_state)
