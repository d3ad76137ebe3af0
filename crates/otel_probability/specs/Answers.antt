-- What the consistent samplers answer (OpenTelemetry specification, "TraceState: Probability Sampling", "Sampler
-- behavior"; "Sampling", "Consistent probability sampling").
use Rattle.std.specs.Prelude.{◌≡◌, ℕ, ◌%◌, ◌==◌, Bool, false, if◌then◌else◌, [], Option, Some, None}
use Rattle.std.specs.Prelude.{MatchOption}
use Rattle.std.specs.Option.{option_map_or}
use Rattle.opentelemetry.specs.Plain.{PlainSpanContext}
use Rattle.otel_sampling.specs.Sampler.{active_in, passed_trace_state}
use Rattle.otel_sampling.specs.Sampling.{PlainSamplingResult, SamplingQuestion}
use Rattle.otel_sampling.specs.declared.trace.sampler.SamplingDecision.{SamplingDecision}
use Rattle.otel_sampling.specs.declared.trace.sampler.SamplingDecision.TheVariants as decisions
use Rattle.otel_probability.specs.Entry.{Pairs, randomness_in, threshold_in, with_threshold, without_threshold}
use Rattle.otel_probability.specs.Numbers.{keeps}

-- an answer that adds no attributes
abbrev pub bare_answer : SamplingDecision → Pairs → PlainSamplingResult
bare_answer decision state = record { decision = decision; attributes = []; trace_state = state }

-- whether a trace is kept at a threshold
abbrev pub keeps_trace : ℕ → Pairs → ℕ → Bool
keeps_trace threshold state trace_id = keeps threshold (randomness_in state trace_id)

-- a trace that is kept is sampled and its threshold handed on; another one is dropped, and no threshold is handed on
abbrev pub by_threshold : ℕ → Pairs → ℕ → PlainSamplingResult
by_threshold threshold state trace_id =
    if keeps_trace threshold state trace_id
    then bare_answer decisions.RecordAndSample (with_threshold threshold state)
    else bare_answer decisions.Drop (without_threshold state)

-- the trace state that a question's parent hands on
abbrev pub state_of : SamplingQuestion → Pairs
state_of question = passed_trace_state (active_in question.parent_context)

-- what a sampler by a threshold answers
abbrev pub probability_answer : ℕ → SamplingQuestion → PlainSamplingResult
probability_answer threshold question = by_threshold threshold (state_of question) question.trace_id

-- the questions that it answers without memory: nothing is handed on
pub record ProbabilityIsFree (threshold : ℕ) (question : SamplingQuestion) : Type 0 where
  pub drops : keeps_trace threshold (state_of question) question.trace_id ≡ false
  pub bare : state_of question ≡ []

-- whether a sampled span's threshold is one at which its trace is kept
abbrev pub is_consistent : Pairs → ℕ → Bool
is_consistent state trace_id =
    option_map_or (λ threshold. keeps_trace threshold state trace_id) (threshold_in state) false

-- the trace state with its threshold where that is consistent, and without one where it is not
abbrev pub consistent_state : Pairs → ℕ → Pairs
consistent_state state trace_id = if is_consistent state trace_id then state else without_threshold state

-- the child of a sampled span is sampled at that span's threshold, and that of another one is dropped
abbrev pub child_answer : PlainSpanContext → ℕ → PlainSamplingResult
child_answer span trace_id =
    if span.trace_flags % 2 == 1
    then bare_answer decisions.RecordAndSample (consistent_state span.trace_state trace_id)
    else bare_answer decisions.Drop (without_threshold span.trace_state)

-- what a sampler by parents answers: a root is decided on by the threshold
abbrev pub by_parent : ℕ → Option PlainSpanContext → ℕ → PlainSamplingResult
by_parent threshold None trace_id = by_threshold threshold [] trace_id
by_parent threshold (Some span) trace_id = child_answer span trace_id

abbrev pub parent_answer : ℕ → SamplingQuestion → PlainSamplingResult
parent_answer threshold question = by_parent threshold (active_in question.parent_context) question.trace_id

-- the questions that it answers without memory
abbrev pub ParentIsFree : ℕ → SamplingQuestion → Type 0
ParentIsFree threshold question =
    MatchOption (active_in question.parent_context)
    (keeps_trace threshold [] question.trace_id ≡ false)
    (λ span. span.trace_state ≡ [])
