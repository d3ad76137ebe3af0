-- What each sampler of the SDK answers (OpenTelemetry specification, "Built-in samplers").
use Rattle.std.specs.Prelude.{◌≡◌, ℕ, ◌%◌, ◌==◌, if◌then◌else◌, Bool, true, false, IsTrue, IsFalse, List, [], Option}
use Rattle.std.specs.Prelude.{Some, None, MatchOption}
use Rattle.opentelemetry.specs.Plain.{PlainContext, PlainSpanContext}
use Rattle.otel_sampling.specs.Sampling.{SamplingQuestion, PlainSamplingResult}
use Rattle.otel_sampling.specs.declared.trace.sampler.SamplingDecision.{SamplingDecision}
use Rattle.otel_sampling.specs.declared.trace.sampler.SamplingDecision.TheVariants as decisions
use Rattle.otel_sampling.specs.declared.trace.sampler.SamplerOf.{SamplerOf, AlwaysOn, AlwaysOff, ParentBased', TraceIdRatioBased, Custom}
use Rattle.otel_sampling.specs.Ratio.{PlainRatio, samples}

-- what a sampler is made of, without where it lies in memory: one of the SDK's, perhaps over another one, or a
-- custom one
pub data SamplerPlan (C : Type 0) : Type 0 where
  always_on : SamplerPlan C
  always_off : SamplerPlan C
  parent_based : SamplerPlan C → SamplerPlan C
  trace_id_ratio_based : PlainRatio → SamplerPlan C
  custom : C → SamplerPlan C

-- the plan of a sampler
abbrev pub plan : {C : Type 0} → SamplerOf C → SamplerPlan C
plan AlwaysOn = always_on
plan AlwaysOff = always_off
plan (ParentBased' p delegate) = parent_based (plan delegate)
plan (TraceIdRatioBased ratio) = trace_id_ratio_based ratio
plan (Custom c) = custom c

-- the context of the span that is active in a context, if there is one
abbrev pub active_in : Option PlainContext → Option PlainSpanContext
active_in None = None
active_in (Some context) = context.span_context

-- the trace state of the active span; the empty one where none is active
abbrev pub passed_trace_state : Option PlainSpanContext → List (List ℕ × List ℕ)
passed_trace_state None = []
passed_trace_state (Some span) = span.trace_state

-- a decision of a sampler of the SDK: it adds no attributes and passes the trace state on
abbrev pub built_in : SamplingDecision → Option PlainSpanContext → PlainSamplingResult
built_in decision active = record { decision = decision; attributes = []; trace_state = passed_trace_state active }

-- the child of a sampled span is sampled, and that of another one is dropped
abbrev pub parent_decision : PlainSpanContext → SamplingDecision
parent_decision span = if span.trace_flags % 2 == 1 then decisions.RecordAndSample else decisions.Drop

-- a trace that the ratio samples is sampled, and another one is dropped
abbrev pub ratio_decision : PlainRatio → ℕ → SamplingDecision
ratio_decision ratio trace_id = if samples ratio trace_id then decisions.RecordAndSample else decisions.Drop

-- what a sampler by parents answers: an active span decides alone, and in its place the delegate's decision where none is
-- active
abbrev pub by_parent : Option PlainSpanContext → SamplingDecision → PlainSamplingResult
by_parent None delegated = built_in delegated None
by_parent (Some span) delegated = built_in (parent_decision span) (Some span)

-- what a sampler answers, where custom_answer is what a custom one does
abbrev pub sampler_answer : {C : Type 0} → (C → SamplingQuestion → PlainSamplingResult)
    → SamplerPlan C → SamplingQuestion → PlainSamplingResult
sampler_answer custom_answer always_on question =
    built_in decisions.RecordAndSample (active_in question.parent_context)
sampler_answer custom_answer always_off question = built_in decisions.Drop (active_in question.parent_context)
sampler_answer custom_answer (parent_based delegate) question =
    by_parent (active_in question.parent_context) (sampler_answer custom_answer delegate question).decision
sampler_answer custom_answer (trace_id_ratio_based ratio) question =
    built_in (ratio_decision ratio question.trace_id) (active_in question.parent_context)
sampler_answer custom_answer (custom c) question = custom_answer c question

-- where a sampler answers whether memory is there or not: a sampler of the SDK does where the active span has no
-- trace state to be passed on, a custom one where custom_is_infallible says so
abbrev pub SamplerIsInfallible : {C : Type 0} → (C → SamplingQuestion → Type 0)
    → SamplerPlan C → SamplingQuestion → Type 0
SamplerIsInfallible custom_is_infallible always_on question =
    passed_trace_state (active_in question.parent_context) ≡ []
SamplerIsInfallible custom_is_infallible always_off question =
    passed_trace_state (active_in question.parent_context) ≡ []
SamplerIsInfallible custom_is_infallible (parent_based delegate) question =
    MatchOption (active_in question.parent_context)
    (SamplerIsInfallible custom_is_infallible delegate question)
    (λ span. span.trace_state ≡ [])
SamplerIsInfallible custom_is_infallible (trace_id_ratio_based ratio) question =
    passed_trace_state (active_in question.parent_context) ≡ []
SamplerIsInfallible custom_is_infallible (custom c) question = custom_is_infallible c question

-- whether a custom sampler stands in a plan
abbrev pub has_custom : {C : Type 0} → SamplerPlan C → Bool
has_custom always_on = false
has_custom always_off = false
has_custom (parent_based delegate) = has_custom delegate
has_custom (trace_id_ratio_based ratio) = false
has_custom (custom c) = true

-- whether a plan begins with a sampler that has a delegate
abbrev pub has_delegate : {C : Type 0} → SamplerPlan C → Bool
has_delegate always_on = false
has_delegate always_off = false
has_delegate (parent_based delegate) = true
has_delegate (trace_id_ratio_based ratio) = false
has_delegate (custom c) = false

-- what a try at a copy answers: a sampler of the same plan, or none where a custom one stands in it
abbrev pub IsTryOf : {C : Type 0} → SamplerPlan C → Option (SamplerOf C) → Type 0
IsTryOf original None = IsTrue (has_custom original)
IsTryOf original (Some copy) = (plan copy ≡ original) × IsFalse (has_custom original)
