-- Work in a span: a start, the work, and the end of the span.
use Rattle.std.specs.Prelude.{◌≡◌, ℕ, List, Some, Result, Ok, Err, IsOk}
use denote.Ref.{Bor, MutBor}
use Rattle.std.specs.Fn.{Once}
use Rattle.std.specs.declared.alloc.AllocError.{AllocError}
use Rattle.opentelemetry.specs.Plain.{PlainContext, PlainScope}
use Rattle.opentelemetry.specs.PlainSpanBuilder.{PlainSpanBuilder, named_builder}
use Rattle.otel_sampling.specs.declared.trace.sampler.ShouldSample as sampling
use Rattle.otel_sampling.specs.declared.trace.id_generator.GivesIds as drawing
use Rattle.otel_pipeline.specs.Ending.{EndIsInfallible, Ends}
use Rattle.otel_pipeline.specs.Provider.{ProviderState}
use Rattle.otel_pipeline.specs.SpanHistory.{PlainSpan}
use Rattle.otel_pipeline.specs.StartRequest.{StartRequest, start_request}
use Rattle.otel_pipeline.specs.Starting.{AnswersStart, DrawsAtMost}
use Rattle.otel_pipeline.specs.declared.trace.in_span.InSpan.{InSpan}
use Rattle.otel_pipeline.specs.declared.trace.span_processor.SpanProcessor.{Ghosts}

-- a context with a span active in it, and all else that was there
abbrev pub active_in : PlainContext → PlainSpan → PlainContext
active_in cx span = record cx { span_context = Some span.span_context }

-- what is asked of the start of a child of a span, of this name
abbrev pub child_request : PlainScope → List ℕ → PlainSpan → PlainContext → ℕ → StartRequest
child_request scope name parent cx now = start_request scope (named_builder name) (active_in cx parent) now

-- a provider, and the clock that spans at it go by
pub record Clocked (P C : Type 0) : Type 0 where
  pub provider : P
  pub clock : C

abbrev pub clocked : {P C : Type 0} → P → C → Clocked P C
clocked provider clock = record { provider = provider; clock = clock }

-- what work in a span is handed to change, and leaves: what holds the span, and a provider with its clock
pub record Handed (X P C : Type 0) : Type 0 where
  pub held : X
  pub at : Clocked P C

-- a call of the work with what it is handed, in a context, which answers and leaves something else
pub record Works {F X Cx P C T : Type 0}
    (g : Once F (MutBor X × (Bor Cx × (MutBor P × (MutBor C × Unit {0}))))
    (T × (MutBor X × (MutBor P × (MutBor C × Unit {0})))))
    (work : F) (cx : Cx) (given : Handed X P C) (answer : T) (left : Handed X P C) : Type 0 where
  pub given_span : MutBor X
  pub given_cx : Bor Cx
  pub given_provider : MutBor P
  pub given_clock : MutBor C
  pub left_span : MutBor X
  pub left_provider : MutBor P
  pub left_clock : MutBor C
  pub met : g.post work (given_span, (given_cx, (given_provider, (given_clock, tt))))
      (answer, (left_span, (left_provider, (left_clock, tt))))
  pub cx_is : given_cx.now ≡ cx
  pub gives : (given_span.now ≡ given.held) × (given_provider.now ≡ given.at.provider)
      × (given_clock.now ≡ given.at.clock)
  pub leaves : (left_span.now ≡ left.held) × (left_provider.now ≡ left.at.provider)
      × (left_clock.now ≡ left.at.clock)

-- where work in a span begins: at a provider with its clock, under the scope of a tracer, with what the span begins
-- with, in a context
pub record Beginning (P S G C : Type 0) : Type 0 where
  pub scope : PlainScope
  pub builder : PlainSpanBuilder
  pub cx : PlainContext
  pub at : Clocked (ProviderState P S G) C

abbrev pub beginning : {P S G C : Type 0} → PlainScope → PlainSpanBuilder → PlainContext → ProviderState P S G → C
    → Beginning P S G C
beginning scope builder cx provider clock =
    record { scope = scope; builder = builder; cx = cx; at = clocked provider clock }

-- what is asked of a start at such a beginning, at a moment
abbrev pub request_at : {P S G C : Type 0} → Beginning P S G C → ℕ → StartRequest
request_at old moment = start_request old.scope old.builder old.cx moment

module _ {P : Type 0} (calls : Ghosts P) where
  -- a span ended at a moment, or there was no memory for that and nothing happened
  abbrev pub EndsOrDrops : {S G : Type 0} → ProviderState P S G → PlainSpan → ℕ → Result ℕ AllocError
      → ProviderState P S G → Type 0
  EndsOrDrops old span moment (Ok refused) new = Ends calls old span moment refused new
  EndsOrDrops old span moment (Err _) new = new ≡ old

module _ {P S G C : Type 0} (calls : Ghosts P) (sampler : sampling.Ghosts S) (ids : drawing.Ghosts G)
    (tells : C → ℕ → C → Type 0) where
  -- the clock was read, and a start of a span at that moment was answered so
  abbrev pub AnswersNow : Beginning P S G C → Result PlainSpan AllocError → Clocked (ProviderState P S G) C → Type 0
  AnswersNow old answer new = (moment : ℕ) × tells old.at.clock moment new.clock
      × AnswersStart calls sampler ids old.at.provider (request_at old moment) answer new.provider

module _ {P S G C : Type 0} (ids : drawing.Ghosts G) (tells : C → ℕ → C → Type 0) where
  -- the clock was read, and ids were drawn at most
  abbrev pub DrawsNow : Beginning P S G C → Clocked (ProviderState P S G) C → Type 0
  DrawsNow old new = (moment : ℕ) × tells old.at.clock moment new.clock
      × DrawsAtMost ids old.at.provider (request_at old moment) new.provider

module _ {P S G C : Type 0} (calls : Ghosts P) (tells : C → ℕ → C → Type 0) {X : Type 0} (held_span : X → PlainSpan)
    {F T : Type 0}
    (g : Once F (MutBor X × (Bor PlainContext × (MutBor (ProviderState P S G) × (MutBor C × Unit {0}))))
    (T × (MutBor X × (MutBor (ProviderState P S G) × (MutBor C × Unit {0}))))) where
  -- the work was done with a span, in a context, and the span that it left ended, at a moment that the clock told after
  -- the work
  pub record WorksAndEnds (span : PlainSpan) (cx : PlainContext) (old : Clocked (ProviderState P S G) C) (work : F)
      (done : InSpan T) (new : Clocked (ProviderState P S G) C) : Type 0 where
    pub held : X
    pub holds : held_span held ≡ span
    pub left : Handed X (ProviderState P S G) C
    pub works : Works g work cx (record { held = held; at = old }) done.answer left
    pub end : ℕ
    pub told : tells left.at.clock end new.clock
    pub ends : EndsOrDrops calls left.at.provider (held_span left.held) end done.ended new.provider
    pub free : EndIsInfallible (held_span left.held) left.at.provider → IsOk done.ended

  -- a span started, the work was done with the span active, and it ended
  pub record WorksInSpan (sampler : sampling.Ghosts S) (ids : drawing.Ghosts G) (old : Beginning P S G C) (work : F)
      (done : InSpan T) (new : Clocked (ProviderState P S G) C) : Type 0 where
    pub span : PlainSpan
    pub started : Clocked (ProviderState P S G) C
    pub starts : AnswersNow calls sampler ids tells old (Ok span) started
    pub ends : WorksAndEnds span (active_in old.cx span) started work done new
