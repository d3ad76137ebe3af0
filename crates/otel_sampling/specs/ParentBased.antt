-- What the sampler by parents with a delegate for each kind of parent answers (OpenTelemetry specification,
-- "ParentBased").
use Rattle.std.specs.Prelude.{◌≡◌, ◌%◌, ◌==◌, ◌&&◌, nat_lt, if◌then◌else◌, Bool, true, false}
use Rattle.std.specs.Prelude.{Option, Some, None, MatchOption}
use Rattle.opentelemetry.specs.Plain.{PlainContext, PlainSpanContext}
use Rattle.opentelemetry.specs.PlainContexts.{current_span_context}
use Rattle.otel_sampling.specs.Sampling.{SamplingQuestion, PlainSamplingResult}
use Rattle.otel_sampling.specs.Sampler.{SamplerPlan, SamplerIsInfallible, active_in, always_on, always_off, built_in}
use Rattle.otel_sampling.specs.Sampler.{plan, sampler_answer}
use Rattle.otel_sampling.specs.declared.trace.sampler.SamplingDecision.{SamplingDecision}
use Rattle.otel_sampling.specs.declared.trace.sampler.SamplingDecision.TheVariants as decisions
use Rattle.otel_sampling.specs.declared.trace.parent_based.ParentBased.{ParentBased}

-- the sampler of roots, and one for each kind of parent
pub record Delegates (S : Type 0) : Type 0 where
  pub root : S
  pub remote_parent_sampled : SamplerPlan S
  pub remote_parent_not_sampled : SamplerPlan S
  pub local_parent_sampled : SamplerPlan S
  pub local_parent_not_sampled : SamplerPlan S

-- those of a sampler by parents
abbrev pub delegates_of : {S : Type 0} → ParentBased S → Delegates S
delegates_of sampler = record {
  root = sampler.root;
  remote_parent_sampled = plan sampler.remote_parent_sampled;
  remote_parent_not_sampled = plan sampler.remote_parent_not_sampled;
  local_parent_sampled = plan sampler.local_parent_sampled;
  local_parent_not_sampled = plan sampler.local_parent_not_sampled;
}

-- the standard's delegates beside a sampler of roots
abbrev pub default_delegates : {S : Type 0} → S → Delegates S
default_delegates root = record {
  root = root;
  remote_parent_sampled = always_on;
  remote_parent_not_sampled = always_off;
  local_parent_sampled = always_on;
  local_parent_not_sampled = always_off;
}

-- a span context if it is valid, where neither of its ids is zero
abbrev pub valid_one : PlainSpanContext → Option PlainSpanContext
valid_one span = if nat_lt 0 span.trace_id && nat_lt 0 span.span_id then Some span else None

-- the parent that a context has: its active span, if that one's context is valid
abbrev pub parent_in : Option PlainContext → Option PlainSpanContext
parent_in None = None
parent_in (Some context) = valid_one (current_span_context context)

-- the delegate for parents that are remote or not, and sampled or not
abbrev pub delegate_for : {S : Type 0} → Delegates S → Bool → Bool → SamplerPlan S
delegate_for delegates true true = delegates.remote_parent_sampled
delegate_for delegates true false = delegates.remote_parent_not_sampled
delegate_for delegates false true = delegates.local_parent_sampled
delegate_for delegates false false = delegates.local_parent_not_sampled

-- the delegate for a parent
abbrev pub parent_delegate : {S : Type 0} → Delegates S → PlainSpanContext → SamplerPlan S
parent_delegate delegates parent = delegate_for delegates parent.is_remote (parent.trace_flags % 2 == 1)

-- the whole answer of the delegate for the parent, or of the root's sampler where there is no parent
abbrev pub by_delegates : {S : Type 0} → (S → SamplingQuestion → PlainSamplingResult)
    → Delegates S → Option PlainSpanContext → SamplingQuestion → PlainSamplingResult
by_delegates answer delegates None question = answer delegates.root question
by_delegates answer delegates (Some parent) question =
    sampler_answer answer (parent_delegate delegates parent) question

abbrev pub parent_based_answer : {S : Type 0} → (S → SamplingQuestion → PlainSamplingResult)
    → Delegates S → SamplingQuestion → PlainSamplingResult
parent_based_answer answer delegates question =
    by_delegates answer delegates (parent_in question.parent_context) question

-- the questions that are answered whether memory is there or not: those that the delegate in charge answers so
abbrev pub ParentBasedIsInfallible : {S : Type 0} → (S → SamplingQuestion → Type 0)
    → Delegates S → SamplingQuestion → Type 0
ParentBasedIsInfallible is_infallible delegates question =
    MatchOption (parent_in question.parent_context)
    (is_infallible delegates.root question)
    (λ parent. SamplerIsInfallible is_infallible (parent_delegate delegates parent) question)

-- a sampler answers each question as the SDK's of one decision does: without attributes, the trace state passed on
abbrev pub AnswersAs : {S : Type 0} → (S → SamplingQuestion → PlainSamplingResult)
    → SamplingDecision → SamplerPlan S → Type 0
AnswersAs answer decision sampler = (question : SamplingQuestion)
    → sampler_answer answer sampler question ≡ built_in decision (active_in question.parent_context)

-- delegates decide as the parents did: those for sampled ones sample, and those for others drop
pub record FollowParents {S : Type 0} (answer : S → SamplingQuestion → PlainSamplingResult)
    (delegates : Delegates S) : Type 0 where
  pub remote_parent_sampled : AnswersAs answer decisions.RecordAndSample delegates.remote_parent_sampled
  pub remote_parent_not_sampled : AnswersAs answer decisions.Drop delegates.remote_parent_not_sampled
  pub local_parent_sampled : AnswersAs answer decisions.RecordAndSample delegates.local_parent_sampled
  pub local_parent_not_sampled : AnswersAs answer decisions.Drop delegates.local_parent_not_sampled
