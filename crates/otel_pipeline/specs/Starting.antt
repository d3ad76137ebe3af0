-- What the start of a span makes, and what it does to its provider (OpenTelemetry specification, "Span Creation").
use Rattle.std.specs.Prelude.{◌≡◌, ◌≢◌, ℕ, ◌^◌, ◌<◌, ◌||◌, List, [], ◌∷◌, Option, Some, None, Result, true}
use Rattle.std.specs.Prelude.{◌⊎◌, MatchBool, MatchOption, MatchResult}
use Rattle.std.specs.declared.alloc.AllocError.{AllocError}
use Rattle.opentelemetry.specs.Plain.{PlainSpanContext, PlainContext}
use Rattle.opentelemetry.specs.PlainSpanBuilder.{PlainSpanBuilder}
use Rattle.otel_sampling.specs.declared.trace.sampler.SamplingDecision.{SamplingDecision}
use Rattle.otel_sampling.specs.declared.trace.sampler.SamplingDecision.TheVariants as decisions
use Rattle.otel_sampling.specs.declared.trace.sampler.ShouldSample as sampling
use Rattle.otel_sampling.specs.declared.trace.id_generator.GivesIds as drawing
use Rattle.otel_sampling.specs.Sampling.{PlainSamplingResult}
use Rattle.otel_pipeline.specs.SpanHistory.{PlainSpan, SpanStart, SpanHistory, IsEdited, begun, over, Edit, recording}
use Rattle.otel_pipeline.specs.SpanHistory.{not_recording, span_of}
use Rattle.otel_pipeline.specs.StartRequest.{StartRequest, start_as, start_moment, start_question}
use Rattle.otel_pipeline.specs.Provider.{ProviderState, unstarted_context}
use Rattle.otel_pipeline.specs.declared.trace.span_processor.SpanProcessor.{Ghosts}

module _ {G : Type 0} (ids : drawing.Ghosts G) where
  -- the trace id of a span that starts at a moment: that of the active one, or one that is drawn
  abbrev pub DrawsTraceId : Option PlainSpanContext → ℕ → G → ℕ → G → Type 0
  DrawsTraceId None start old trace_id new = ids.gives_trace_id old start trace_id new
  DrawsTraceId (Some active) start old trace_id new = (trace_id ≡ active.trace_id) × (new ≡ old)

  -- the ids of a span that starts at a moment: the span id, of 64 bits, is drawn first
  pub record DrawsIds (active : Option PlainSpanContext) (start : ℕ) (old : G) (trace_id span_id : ℕ) (new : G)
      : Type 0 where
    pub between : G
    pub draws_span_id : ids.gives_span_id old span_id between
    pub draws_trace_id : DrawsTraceId active start between trace_id new
    pub fits : span_id < 2 ^ 64

module _ {P S G : Type 0} (ids : drawing.Ghosts G) where
  -- ids were drawn, whatever came of them, and nothing else happened
  pub record OnlyIds (old : ProviderState P S G) (request : StartRequest) (new : ProviderState P S G) : Type 0 where
    pub trace_id : ℕ
    pub span_id : ℕ
    pub draws : DrawsIds ids request.cx.span_context (start_moment request.builder request.now) old.id_generator
        trace_id span_id new.id_generator
    pub rest : new ≡ record old { id_generator = new.id_generator }

  -- ids were drawn at most
  abbrev pub DrawsAtMost : ProviderState P S G → StartRequest → ProviderState P S G → Type 0
  DrawsAtMost old request new = (new ≡ old) ⊎ OnlyIds old request new

module _ {P S G : Type 0} (sampler : sampling.Ghosts S) (ids : drawing.Ghosts G) where
  -- ids were drawn, and nothing else happened; where the sampler needs no memory for the question, the span was to record
  pub record OnlyDraws (old : ProviderState P S G) (builder : PlainSpanBuilder) (cx : PlainContext)
      (now : ℕ) (new : ProviderState P S G) : Type 0 where
    pub trace_id : ℕ
    pub span_id : ℕ
    pub draws : DrawsIds ids cx.span_context (start_moment builder now) old.id_generator trace_id span_id
        new.id_generator
    pub needs : sampler.is_infallible old.sampler (start_question cx trace_id builder)
        → (sampler.answer old.sampler (start_question cx trace_id builder)).decision ≢ decisions.Drop
    pub rest : new ≡ record old { id_generator = new.id_generator }

  -- a start found no memory: where nothing starts, for the trace state that a disabled provider hands on, and nothing
  -- happened; else ids were drawn at most
  abbrev pub RefusesStart : ProviderState P S G → StartRequest → ProviderState P S G → Type 0
  RefusesStart old request new = MatchBool (old.is_shut || request.cx.telemetry_suppressed)
      ((old.is_disabled ≡ true) × (new ≡ old))
      (OnlyDraws old request.builder request.cx request.now new)

module _ {P S G : Type 0} (sampler : sampling.Ghosts S) where
  -- a span that is dropped for sure: whatever its trace id, the sampler needs no memory and drops it
  pub record Drops (old : ProviderState P S G) (builder : PlainSpanBuilder) (cx : PlainContext) : Type 0 where
    pub needs_none : (trace_id : ℕ) → sampler.is_infallible old.sampler (start_question cx trace_id builder)
    pub drops : (trace_id : ℕ)
        → (sampler.answer old.sampler (start_question cx trace_id builder)).decision ≡ decisions.Drop

  -- a start that needs no memory: where nothing starts, as at a shut provider or in a suppressed context, one that hands
  -- no trace state on; else of a span that is dropped for sure
  abbrev pub StartIsInfallible : ProviderState P S G → StartRequest → Type 0
  StartIsInfallible old request = MatchBool (old.is_shut || request.cx.telemetry_suppressed)
      ((unstarted_context old request.cx).trace_state ≡ [])
      (Drops old request.builder request.cx)

module _ {P : Type 0} (calls : Ghosts P) where
  -- a processor takes part in a start, as its call does: it edits the span and tells nothing of it
  pub record TakesPart (cx : PlainContext) (old : PlainSpan) (before : P) (new : PlainSpan) (after : P) : Type 0 where
    pub gives : calls.start_gives before old cx new after
    pub edits : IsEdited old new
    pub told : calls.told after ≡ calls.told before

  -- a span is passed from one processor to the next, each of which takes part: the span before all and after all
  abbrev pub PassesThrough : PlainContext → PlainSpan → List P → List P → PlainSpan → Type 0
  PassesThrough cx old [] [] new = new ≡ old
  PassesThrough cx old [] (q ∷ qs) new = ⊥
  PassesThrough cx old (p ∷ ps) [] new = ⊥
  PassesThrough cx old (p ∷ ps) (q ∷ qs) new =
      (middle : PlainSpan) × TakesPart cx old p middle q × PassesThrough cx middle ps qs new

  -- a span that records: each processor may edit it in its turn
  pub record Records (cx : PlainContext) (start : SpanStart) (old new : List P) (history : SpanHistory) : Type 0 where
    pub edits : List Edit
    pub history_is : history ≡ begun start edits
    pub passes : PassesThrough cx (recording start []) old new (recording start edits)

  -- what becomes of a start, as the sampler decided: no processor is told of a span that is dropped
  abbrev pub DecidesStart : SamplingDecision → PlainContext → SpanStart → List P → List P → SpanHistory → Type 0
  DecidesStart decisions.Drop cx start old new history =
      (history ≡ over start.span_context start.limits) × (new ≡ old)
  DecidesStart decisions.RecordOnly cx start old new history = Records cx start old new history
  DecidesStart decisions.RecordAndSample cx start old new history = Records cx start old new history

-- the span of a start of which no processor has been told yet, as the sampler decided
abbrev pub PreparesAs : SamplingDecision → SpanStart → PlainSpan → Type 0
PreparesAs decisions.Drop start span = span ≡ not_recording start.span_context start.limits
PreparesAs decisions.RecordOnly start span = span ≡ recording start []
PreparesAs decisions.RecordAndSample start span = span ≡ recording start []

module _ {P S G : Type 0} (sampler : sampling.Ghosts S) (ids : drawing.Ghosts G) where
  -- at an open provider ids are drawn and the sampler is asked; no processor is told
  pub record PreparesOpen (old : ProviderState P S G) (request : StartRequest) (span : PlainSpan)
      (new : ProviderState P S G) : Type 0 where
    pub trace_id : ℕ
    pub span_id : ℕ
    pub answer : PlainSamplingResult
    pub draws : DrawsIds ids request.cx.span_context (start_moment request.builder request.now) old.id_generator
        trace_id span_id new.id_generator
    pub asks : answer ≡ sampler.answer old.sampler (start_question request.cx trace_id request.builder)
    pub decided : PreparesAs answer.decision (start_as request old.span_limits trace_id span_id answer) span
    pub rest : new ≡ record old { id_generator = new.id_generator }

  -- a span was made of which no processor has been told yet: where the provider is shut or the context suppressed one
  -- that does not record, and nothing is drawn or asked
  abbrev pub Prepares : ProviderState P S G → StartRequest → PlainSpan → ProviderState P S G → Type 0
  Prepares old request span new = MatchBool (old.is_shut || request.cx.telemetry_suppressed)
      ((span ≡ not_recording (unstarted_context old request.cx) old.span_limits) × (new ≡ old))
      (PreparesOpen old request span new)

module _ {P S G : Type 0} (calls : Ghosts P) where
  -- each processor is told of a prepared span that records, and may edit it in its turn; of another one none is told
  abbrev pub TellsStart : PlainContext → PlainSpan → ProviderState P S G → PlainSpan → ProviderState P S G → Type 0
  TellsStart cx prepared old span new = MatchOption prepared.recorded
      ((span ≡ prepared) × (new ≡ old))
      (λ _. IsEdited prepared span × PassesThrough calls cx prepared old.processors new.processors span
      × (new ≡ record old { processors = new.processors }))

module _ {P S G : Type 0} (calls : Ghosts P) (sampler : sampling.Ghosts S) (ids : drawing.Ghosts G) where
  -- at an open provider: ids are drawn, the sampler is asked, and a span that records passes through the processors
  pub record StartsOpen (old : ProviderState P S G) (request : StartRequest) (history : SpanHistory)
      (new : ProviderState P S G) : Type 0 where
    pub trace_id : ℕ
    pub span_id : ℕ
    pub answer : PlainSamplingResult
    pub draws : DrawsIds ids request.cx.span_context (start_moment request.builder request.now) old.id_generator
        trace_id span_id new.id_generator
    pub asks : answer ≡ sampler.answer old.sampler (start_question request.cx trace_id request.builder)
    pub decided : DecidesStart calls answer.decision request.cx
        (start_as request old.span_limits trace_id span_id answer) old.processors new.processors history
    pub rest : new ≡ record old { processors = new.processors; id_generator = new.id_generator }

  -- what a start makes, by the history of the span: where the provider is shut or the context suppressed no span, and
  -- nothing is drawn or asked
  abbrev pub Starts : ProviderState P S G → StartRequest → SpanHistory → ProviderState P S G → Type 0
  Starts old request history new = MatchBool (old.is_shut || request.cx.telemetry_suppressed)
      ((history ≡ over (unstarted_context old request.cx) old.span_limits) × (new ≡ old))
      (StartsOpen old request history new)

  -- what a start answers: a span of such a history, or that there is no memory
  abbrev pub AnswersStart : ProviderState P S G → StartRequest → Result PlainSpan AllocError → ProviderState P S G
      → Type 0
  AnswersStart old request result new = MatchResult result
      (λ span. (history : SpanHistory) × (span ≡ span_of history) × Starts old request history new)
      (λ _. RefusesStart sampler ids old request new)
