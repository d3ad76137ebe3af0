-- Who decides where the headers left the decision open (OpenZipkin, "B3 Propagation", "Sampling State"): whoever reads
-- them.
use Rattle.std.specs.Prelude.{◌≡◌, ◌&&◌, nat_lt, if◌then◌else◌, Bool, true, false, Option, Some, None}
use Rattle.opentelemetry.specs.Headers.{IsValid}
use Rattle.opentelemetry.specs.Plain.{PlainContext, PlainSpanContext}
use Rattle.opentelemetry.specs.PlainContexts.{current_span_context}
use Rattle.otel_sampling.specs.Sampling.{SamplingQuestion}
use Rattle.otel_propagators.specs.B3.{state_of}
use Rattle.otel_propagators.specs.declared.b3.sampling_state.SamplingState.{SamplingState}
use Rattle.otel_propagators.specs.declared.b3.sampling_state.SamplingState.TheVariants.{Accept, Deny, Defer, Debug}

-- a span context is that of a parent in another process that left the decision open
pub record IsDeferred (span : PlainSpanContext) : Type 0 where
  pub remote : span.is_remote ≡ true
  pub valid : IsValid span
  pub deferred : state_of span.trace_flags ≡ Defer

-- the active span of a context is such a parent
abbrev pub HasDeferredParent : Option PlainContext → Type 0
HasDeferredParent None = ⊥
HasDeferredParent (Some cx) = IsDeferred (current_span_context cx)

-- whether a state leaves the decision open
abbrev pub is_open : SamplingState → Bool
is_open Accept = false
is_open Deny = false
is_open Defer = true
is_open Debug = false

-- the test of a deferred parent
abbrev pub is_deferred : PlainSpanContext → Bool
is_deferred span =
    span.is_remote && (nat_lt 0 span.trace_id && nat_lt 0 span.span_id) && is_open (state_of span.trace_flags)

-- the context whose active span is to be followed: none where that one left the decision open
abbrev pub context_to_follow : Option PlainContext → Option PlainContext
context_to_follow None = None
context_to_follow (Some cx) = if is_deferred (current_span_context cx) then None else Some cx

-- the question about a root in the place of one about the child of a deferred parent; any other as it is
abbrev pub question_to_ask : SamplingQuestion → SamplingQuestion
question_to_ask question = record question { parent_context = context_to_follow question.parent_context }
