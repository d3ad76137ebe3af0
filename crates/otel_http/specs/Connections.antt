-- The answered requests of a connection, one after the other, and their spans, at a scope over a provider.
use Rattle.std.specs.Prelude.{◌≡◌, ◌<◌, ◌-◌, ◌^◌, ℕ, List, [], ◌∷◌, Option, Some, None, All, IfSome, IsSome, map}
use Rattle.http.specs.Request.{head_of}
use Rattle.http_server.specs.Exchange.{Call}
use Rattle.opentelemetry.specs.Plain.{PlainContext}
use Rattle.opentelemetry.specs.PlainSpanBuilder.{PlainSpanBuilder}
use Rattle.otel_sampling.specs.declared.trace.sampler.ShouldSample as sampling
use Rattle.otel_sampling.specs.declared.trace.id_generator.GivesIds as drawing
use Rattle.otel_pipeline.specs.SpanHistory.{PlainSpan}
use Rattle.otel_pipeline.specs.declared.trace.span_processor.SpanProcessor.{Ghosts}
use Rattle.otel_scope.specs.Tracings.{Ends, Starts}
use Rattle.otel_scope.specs.declared.current.Current.{Current}
use Rattle.otel_scope.specs.declared.holds_spans.HoldsSpans as holding
use Rattle.otel_scope.specs.declared.tracing.Tracing.{Tracing}
use Rattle.otel_http.specs.Headers.{header_texts}
use Rattle.otel_http.specs.RequestSpans.{IsServerSpan, one_more}
use Rattle.otel_http.specs.Serving.{Serving, ServesIn, TracedState, TracesRequest}

-- a request with its answer, and the span that was ended for it; none where there was no memory for one
pub record Answered : Type 0 where
  pub call : Call
  pub span : Option PlainSpan

module _ {V P S G C T : Type 0} (calls : Ghosts P) (sampler : sampling.Ghosts S) (ids : drawing.Ghosts G)
    (tells : C → ℕ → C → Type 0) (scopes : holding.Ghosts (Tracing P S G C T)) (serves : Serving V (Tracing P S G C T))
    (here : Current) where
  -- a request was served inside a span, which started before the service was asked and ended as this one after it
  -- answered: it is a server's span, below the span of the context that the request's headers give, read in this one
  pub record AnswersInside (old : TracedState V (Tracing P S G C T)) (call : Call) (span : PlainSpan)
      (new : TracedState V (Tracing P S G C T)) : Type 0 where
    pub cx : PlainContext
    pub is_read : scopes.extracts old.scope here.cx (header_texts (head_of call.0).headers) cx
    pub served : ServesIn scopes serves cx old call.0 call.1 new
    pub begun : PlainSpanBuilder
    pub is_asked : served.asked ≡ Some begun
    pub starts : Starts calls sampler ids tells served.placed begun served.inside.entered
    pub ends : Ends calls tells served.inside.said span served.placed.current served.done.scope
    pub is_server : IfSome span.recorded (IsServerSpan cx)
    pub untraced : new.untraced ≡ old.untraced

  -- a request was served without a span, which counts
  pub record AnswersOutside (old : TracedState V (Tracing P S G C T)) (call : Call)
      (new : TracedState V (Tracing P S G C T)) : Type 0 where
    pub traces : TracesRequest scopes serves old call.0 call.1 new
    pub untraced : new.untraced ≡ one_more old.untraced

  -- either way
  abbrev pub AnswersOne : TracedState V (Tracing P S G C T) → Call → Option PlainSpan
      → TracedState V (Tracing P S G C T) → Type 0
  AnswersOne old call None new = AnswersOutside old call new
  AnswersOne old call (Some span) new = AnswersInside old call span new

  -- one request after the other was answered, each with one span of its own at most
  abbrev pub AnswersAll : TracedState V (Tracing P S G C T) → List Answered → TracedState V (Tracing P S G C T) → Type 0
  AnswersAll old [] new = new ≡ old
  AnswersAll old (a ∷ more) new = (next : TracedState V (Tracing P S G C T)) × AnswersOne old a.call a.span next
      × (next.scope.current ≡ here) × AnswersAll next more new

module _ {V P S G C T : Type 0} (calls : Ghosts P) (sampler : sampling.Ghosts S) (ids : drawing.Ghosts G)
    (tells : C → ℕ → C → Type 0) (scopes : holding.Ghosts (Tracing P S G C T)) (serves : Serving V (Tracing P S G C T))
  where
    -- what calls did: each was answered where the first one was, and has its span where none was counted as untraced
    pub record AnswersCalls (old : TracedState V (Tracing P S G C T)) (answered_calls : List Call)
        (new : TracedState V (Tracing P S G C T)) : Type 0 where
      pub answered : List Answered
      pub are_calls : map (λ a. a.call) answered ≡ answered_calls
      pub in_order : AnswersAll calls sampler ids tells scopes serves old.scope.current old answered new
      pub traced : old.untraced < 2 ^ 64 - 1 → new.untraced ≡ old.untraced → All (λ a. IsSome a.span) answered
