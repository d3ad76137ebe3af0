-- How a trace goes on from its root, one span context after another.
use Rattle.std.specs.Prelude.{◌≡◌, ◌⊎◌, ℕ, ◌<◌, ◌^◌, List, [], ◌∷◌, Some, Ok, false}
use Rattle.opentelemetry.specs.Carrier.{Texts}
use Rattle.opentelemetry.specs.Plain.{PlainContext, PlainSpanContext}
use Rattle.otel_sampling.specs.Sampler.{active_in, built_in, parent_decision}
use Rattle.otel_sampling.specs.Sampling.{PlainSamplingResult, SamplingQuestion}
use Rattle.otel_sampling.specs.declared.trace.id_generator.GivesIds as drawing
use Rattle.otel_sampling.specs.declared.trace.sampler.ShouldSample as sampling
use Rattle.otel_propagation.specs.Traceparent.{ExtractsTraceContext, InjectsTraceContext, IsSpanContext, IsValid}
use Rattle.otel_pipeline.specs.Provider.{ProviderState}
use Rattle.otel_pipeline.specs.SpanHistory.{SpanHistory, span_of}
use Rattle.otel_pipeline.specs.StartRequest.{StartRequest, start_span_context}
use Rattle.otel_pipeline.specs.Starting.{Starts}
use Rattle.otel_pipeline.specs.declared.trace.span_processor.SpanProcessor.{Ghosts}

-- a span context is that of a span that starts below a parent, as a sampler answered: its trace id is the parent's, its
-- span id a new one
abbrev pub IsAnsweredChild : PlainSpanContext → PlainSamplingResult → PlainSpanContext → Type 0
IsAnsweredChild parent answer child =
    (span_id : ℕ) × (child ≡ start_span_context parent parent.trace_id span_id answer)

-- a span context is that of a child under a sampler by parents: its trace id is the parent's, its span id a new one, and
-- the parent alone decided
abbrev pub IsChild : PlainSpanContext → PlainSpanContext → Type 0
IsChild parent child = IsAnsweredChild parent (built_in (parent_decision parent) (Some parent)) child

-- a sampler goes by parents: where a span is active, that one's decision is the answer
abbrev pub GoesByParents : {S : Type 0} → sampling.Ghosts S → S → Type 0
GoesByParents sampler s = (question : SamplingQuestion) (parent : PlainSpanContext)
    → active_in question.parent_context ≡ Some parent
    → sampler.answer s question ≡ built_in (parent_decision parent) (Some parent)

-- a sampler goes by one parent: wherever that one is active, its decision is the answer
abbrev pub GoesByParent : {S : Type 0} → sampling.Ghosts S → S → PlainSpanContext → Type 0
GoesByParent sampler s parent = (question : SamplingQuestion)
    → active_in question.parent_context ≡ Some parent
    → sampler.answer s question ≡ built_in (parent_decision parent) (Some parent)

-- a sampler goes by valid parents, and a span context that is not valid may be no parent to it
abbrev pub GoesByValidParents : {S : Type 0} → sampling.Ghosts S → S → Type 0
GoesByValidParents sampler s = (parent : PlainSpanContext) → IsValid parent → GoesByParent sampler s parent

-- a child whose span id was drawn as one: it is not zero, and has 64 bits
pub record IsDrawnChild (parent child : PlainSpanContext) : Type 0 where
  pub is_child : IsChild parent child
  pub is_span_id : (0 < child.span_id) × (child.span_id < 2 ^ 64)

-- a span context is what a process extracts of the headers that another one injected of a span context that it sent
pub record IsReceived (sent received : PlainSpanContext) : Type 0 where
  pub sender : PlainContext
  pub receiver : PlainContext
  pub found : PlainContext
  pub before : Texts
  pub headers : Texts
  pub sends : sender.span_context ≡ Some sent
  pub injects : InjectsTraceContext sender before (Ok tt) headers
  pub extracts : ExtractsTraceContext receiver headers found
  pub receives : found.span_context ≡ Some received

-- the same of one that was valid when it was sent
pub record IsPassedOn (sent received : PlainSpanContext) : Type 0 where
  pub is_valid : IsValid sent
  pub is_span_context : IsSpanContext sent
  pub is_received : IsReceived sent received

-- each of these span contexts comes of the one before it, as its child or in another process, and the first of this one
abbrev pub AreHops : PlainSpanContext → List PlainSpanContext → Type 0
AreHops before [] = Unit {0}
AreHops before (next ∷ more) = (IsChild before next ⊎ IsPassedOn before next) × AreHops next more

-- the same where span ids were drawn, and nothing is said of the span contexts that were sent
abbrev pub AreDrawnHops : PlainSpanContext → List PlainSpanContext → Type 0
AreDrawnHops before [] = Unit {0}
AreDrawnHops before (next ∷ more) = (IsDrawnChild before next ⊎ IsReceived before next) × AreDrawnHops next more

module _ {P S G : Type 0} (calls : Ghosts P) (sampler : sampling.Ghosts S) (ids : drawing.Ghosts G) where
  -- a span started at an open provider, in a context that is not suppressed and in which this parent is active
  pub record StartsBelow (parent : PlainSpanContext) (old : ProviderState P S G) (request : StartRequest)
      (history : SpanHistory) (new : ProviderState P S G) : Type 0 where
    pub is_open : old.is_shut ≡ false
    pub is_unsuppressed : request.cx.telemetry_suppressed ≡ false
    pub is_active : request.cx.span_context ≡ Some parent
    pub starts : Starts calls sampler ids old request history new

  -- of each such start this is so, of the sampler, of what was asked for, of the parent and of the child
  abbrev pub EachStartBelow : (S → StartRequest → PlainSpanContext → PlainSpanContext → Type 0) → Type 0
  EachStartBelow Makes = (old new : ProviderState P S G) (request : StartRequest) (history : SpanHistory)
      (parent : PlainSpanContext) → StartsBelow parent old request history new
      → Makes old.sampler request parent (span_of history).span_context
