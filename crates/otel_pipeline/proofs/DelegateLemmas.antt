-- A sampler by parents whose delegates decide as the parents did goes by valid parents.
use Rattle.std.proofs.Common.{◌≡◌, ◌%◌, Bool, true, false, ◌&&◌, ap, ◌∙◌}
use Rattle.std.specs.Prelude.{Option, Some, None, unwrap_or, ◌==◌, if◌then◌else◌}
use Rattle.std.proofs.lemmas.Bool.{lt-ltb}
use Rattle.opentelemetry.specs.Plain.{PlainContext, PlainSpanContext}
use Rattle.opentelemetry.specs.PlainContexts.{empty_span_context}
use Rattle.otel_sampling.specs.ParentBased.{Delegates, FollowParents, by_delegates, delegate_for, parent_based_answer, parent_in, valid_one}
use Rattle.otel_sampling.specs.Sampler.{active_in, built_in, parent_decision, sampler_answer}
use Rattle.otel_sampling.specs.Sampling.{SamplingQuestion, PlainSamplingResult}
use Rattle.otel_sampling.specs.declared.trace.sampler.SamplingDecision.TheVariants as decisions
use Rattle.otel_propagation.specs.Traceparent.{IsValid}

valid_stays : (parent : PlainSpanContext) → IsValid parent → valid_one parent ≡ Some parent
valid_stays parent valid =
    λ k. if lt-ltb 0 parent.trace_id valid.0 k && lt-ltb 0 parent.span_id valid.1 k then Some parent else None

-- the active span is the parent where it is valid
active_is_parent : (context : Option PlainContext) (parent : PlainSpanContext) → active_in context ≡ Some parent → IsValid parent
    → parent_in context ≡ Some parent
active_is_parent None parent active valid = absurd (cc)
active_is_parent (Some context) parent active valid =
    ap (λ (a : Option PlainSpanContext). valid_one (unwrap_or a empty_span_context)) active ∙ valid_stays parent valid

module _ {S : Type 0} (answer : S → SamplingQuestion → PlainSamplingResult) (delegates : Delegates S) where
  delegate_follows : FollowParents answer delegates → (question : SamplingQuestion) (is_remote is_sampled : Bool)
      → sampler_answer answer (delegate_for delegates is_remote is_sampled) question
      ≡ built_in (if is_sampled then decisions.RecordAndSample else decisions.Drop) (active_in question.parent_context)
  delegate_follows follow question true true = follow.remote_parent_sampled question
  delegate_follows follow question true false = follow.remote_parent_not_sampled question
  delegate_follows follow question false true = follow.local_parent_sampled question
  delegate_follows follow question false false = follow.local_parent_not_sampled question

  pub follows_parent : FollowParents answer delegates → (parent : PlainSpanContext) → IsValid parent → (question : SamplingQuestion)
      → active_in question.parent_context ≡ Some parent
      → parent_based_answer answer delegates question ≡ built_in (parent_decision parent) (Some parent)
  follows_parent follow parent valid question active =
      ap (λ (a : Option PlainSpanContext). by_delegates answer delegates a question) (active_is_parent question.parent_context parent active valid)
      ∙ delegate_follows follow question parent.is_remote (parent.trace_flags % 2 == 1)
      ∙ ap (λ (a : Option PlainSpanContext). built_in (parent_decision parent) a) active
