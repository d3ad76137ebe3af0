use Rattle.std.proofs.Common.{◌≡◌, ℕ, ◌≤◌, [], Option, Some, None}
use Rattle.opentelemetry.specs.Plain.{PlainSpanContext}
use Rattle.otel_sampling.specs.Sampler.{active_in, passed_trace_state}
use Rattle.otel_sampling.specs.declared.trace.sampler.SamplingDecision.TheVariants as decisions
use Rattle.otel_probability.specs.Answers.{by_parent, state_of}
use Rattle.otel_probability.specs.Entry.{randomness_in, threshold_in}
use Rattle.otel_probability.proofs.Sampled.{child_at, sampled_at}
use Rattle.otel_probability.proofs.laws.thresholds_of_sampled_spans.Goals as goal

parent_at : (threshold u : ℕ) (active : Option PlainSpanContext) (trace_id : ℕ) → (by_parent threshold active trace_id).decision ≡ decisions.RecordAndSample
    → threshold_in (by_parent threshold active trace_id).trace_state ≡ Some u → u ≤ randomness_in (passed_trace_state active) trace_id
parent_at threshold u None trace_id sampled read = sampled_at threshold u [] trace_id sampled read
parent_at threshold u (Some span) trace_id sampled read = child_at span trace_id u read

pub returns-clause-by_threshold : goal.returns-clause-by_threshold
returns-clause-by_threshold c = λ threshold u question sampled read. sampled_at threshold u (state_of question) question.trace_id sampled read

pub returns-clause-by_parent : goal.returns-clause-by_parent
returns-clause-by_parent c = λ threshold u question sampled read. parent_at threshold u (active_in question.parent_context) question.trace_id sampled read
