-- What the span of a request records that is served in a scope over a provider.
use Rattle.std.proofs.Common.{◌≡◌, ◌⊎◌, ◌++◌, ℕ, Bool, true, false, ◌||◌, List, [], ◌∷◌, Option, Some, None, MatchBool, IfSome, nat_le, inl, inr, refl, ap, subst, ◌∙◌}
use Rattle.opentelemetry.specs.Carrier.{Injection, Texts}
use Rattle.opentelemetry.specs.Plain.{PlainContext, PlainSpanContext, error}
use Rattle.opentelemetry.specs.PlainContexts.{current_span_context}
use Rattle.opentelemetry.specs.PlainSpanBuilder.{PlainSpanBuilder}
use Rattle.opentelemetry.specs.declared.trace.span_kind.SpanKind.TheVariants.{Server}
use Rattle.otel_sampling.specs.declared.trace.sampler.SamplingDecision.{SamplingDecision}
use Rattle.otel_sampling.specs.declared.trace.sampler.SamplingDecision.TheVariants as decisions
use Rattle.otel_sampling.specs.declared.trace.sampler.ShouldSample as sampling
use Rattle.otel_sampling.specs.declared.trace.id_generator.GivesIds as drawing
use Rattle.otel_pipeline.specs.Provider.{ProviderState, unstarted_context}
use Rattle.otel_pipeline.specs.SpanHistory.{Edit, IsEdited, PlainSpan, SpanHistory, SpanStart, after, begun, edited, over, set_status, span_of}
use Rattle.otel_pipeline.specs.StartRequest.{StartRequest, start_request}
use Rattle.otel_pipeline.specs.Starting.{DecidesStart, DrawsTraceId, Starts, StartsOpen}
use Rattle.otel_pipeline.specs.declared.trace.span_processor.SpanProcessor.{Ghosts}
use Rattle.otel_pipeline.proofs.SpanLaws.{after-recording}
use Rattle.otel_scope.specs.Currents.{settled}
use Rattle.otel_scope.specs.Tracings.{Enters, Leaves}
use Rattle.otel_scope.specs.Tracings as scoping
use Rattle.otel_scope.specs.declared.current.Current.{Current}
use Rattle.otel_scope.specs.declared.holds_spans.HoldsSpans as holding
use Rattle.otel_scope.specs.declared.tracing.Tracing.{Tracing}
use Rattle.http.specs.declared.request.Parts.{Parts}
use Rattle.http.specs.declared.request.Request.{Request}
use Rattle.http.specs.Request.{head_of}
use Rattle.http_server.specs.declared.response.Response.{Response}
use Rattle.otel_http.specs.declared.traced.TheConstants.{FIRST_FAILURE}
use Rattle.otel_http.specs.RequestSpans.{IsServerBuilder, IsServerSpan, attribute_edits}
use Rattle.otel_http.specs.Serving.{Serving, ServesIn, TracedState, url_scheme}
use Rattle.otel_http.specs.Telling.{SpanStays}
use Rattle.otel_http.proofs.TellingLemmas.{here_stays, stays_through}

-- a start is that of a server's span in a context
pub record IsServerStart (cx : PlainContext) (start : SpanStart) : Type 0 where
  pub kind : start.span_kind ≡ Server
  pub parent : start.parent_span_id ≡ (current_span_context cx).span_id
  pub trace : (parent : PlainSpanContext) → cx.span_context ≡ Some parent → start.span_context.trace_id ≡ parent.trace_id

-- a history, if it is one of a span that records, begins so
abbrev BeginsAs : PlainContext → SpanHistory → Type 0
BeginsAs cx (begun start edits) = IsServerStart cx start
BeginsAs cx (over context limits) = Unit {0}

-- a span that records nothing records nothing after edits
stays_silent : (edits : List Edit) (span : PlainSpan) → span.recorded ≡ None → (after edits span).recorded ≡ None
stays_silent [] span silent = silent
stays_silent (edit ∷ edits) span silent = stays_silent edits (edited edit span) (rw silent refl)

-- what a span records after edits, and more of them
records_as : (cx : PlainContext) (history : SpanHistory) (edits more : List Edit) → BeginsAs cx history
    → IfSome (after more (after edits (span_of history))).recorded (IsServerSpan cx)
records_as cx (begun start old) edits more begins =
    let same = ap (after more) (after-recording start old edits) ∙ after-recording start (old ++ edits) more in
    rw same (record { kind = begins.kind; parent = begins.parent; trace = begins.trace })
records_as cx (over context limits) edits more begins =
    rw (stays_silent more (after edits (span_of (over context limits))) (stays_silent edits (span_of (over context limits)) refl)) tt

module _ {P S G : Type 0} (calls : Ghosts P) (sampler : sampling.Ghosts S) (ids : drawing.Ghosts G) where
  -- the trace id that was drawn below an active span
  drawn_trace : (active : Option PlainSpanContext) (start : _) (old : G) (trace_id : _) (new : G)
      → DrawsTraceId ids active start old trace_id new → (parent : PlainSpanContext) → active ≡ Some parent → trace_id ≡ parent.trace_id
  drawn_trace None start old trace_id new draws parent is = absurd (cc)
  drawn_trace (Some active) start old trace_id new draws parent is = let same : active ≡ parent = cc in draws.0 ∙ ap (λ (c : PlainSpanContext). c.trace_id) same

  -- a start as the sampler decided
  decided_as : (decision : SamplingDecision) (cx : PlainContext) (start : SpanStart) (old new : List P) (history : SpanHistory)
      → IsServerStart cx start → DecidesStart calls decision cx start old new history → BeginsAs cx history
  decided_as decisions.Drop cx start old new history is decided = rw decided.0 tt
  decided_as decisions.RecordOnly cx start old new history is decided = rw decided.history_is is
  decided_as decisions.RecordAndSample cx start old new history is decided = rw decided.history_is is

  -- a start of a server's span
  begins_as : (old : ProviderState P S G) (request : StartRequest) (history : SpanHistory) (new : ProviderState P S G)
      → request.builder.span_kind ≡ Some Server → Starts calls sampler ids old request history new → BeginsAs request.cx history
  begins_as old request history new kind = by (old.is_shut || request.cx.telemetry_suppressed)
    where
      by : (b : Bool) → MatchBool b ((history ≡ over (unstarted_context old request.cx) old.span_limits) × (new ≡ old)) (StartsOpen calls sampler ids old request history new)
          → BeginsAs request.cx history
      by true none = rw none.0 tt
      by false opened =
          decided_as opened.answer.decision request.cx _ old.processors new.processors history
          (record {
            kind = rw kind refl;
            parent = refl;
            trace = drawn_trace request.cx.span_context _ opened.draws.between opened.trace_id new.id_generator opened.draws.draws_trace_id;
          })
          opened.decided

-- the edits by which a span is settled
abbrev settle_edits : Bool → List Edit
settle_edits true = set_status (error []) ∷ []
settle_edits false = []

settled_after : (failed : Bool) (span : PlainSpan) → settled failed span ≡ after (settle_edits failed) span
settled_after true span = refl
settled_after false span = refl

-- the builder that was asked for is a server's
asked_kind : (scheme : List ℕ) (keeps_query : Bool) (head : Parts) (asked : Option PlainSpanBuilder)
    (builder : PlainSpanBuilder) → IfSome asked (IsServerBuilder scheme keeps_query head) → asked ≡ Some builder
    → builder.span_kind ≡ Some Server
asked_kind scheme keeps_query head None builder asks is = absurd (cc)
asked_kind scheme keeps_query head (Some own) builder asks is =
    let same : own ≡ builder = cc in
    subst (λ (b : PlainSpanBuilder). b.span_kind ≡ Some Server) same
    (ap (λ (b : PlainSpanBuilder). b.span_kind) asks.is)

-- the span that is left, where one was there, and where none was
pub some_left : (old new : Option PlainSpan) (span : PlainSpan) → SpanStays old new → old ≡ Some span
    → (left : PlainSpan) × (new ≡ Some left) × IsEdited span left
some_left None new span stays is = absurd (cc)
some_left (Some own) new span stays is =
    let same : own ≡ span = cc in
    subst (λ (s : PlainSpan). (left : PlainSpan) × (new ≡ Some left) × IsEdited s left) same stays

pub none_left : (old new : Option PlainSpan) → SpanStays old new → old ≡ None → new ≡ None
none_left None new stays is = stays
none_left (Some own) new stays is = absurd (cc)

-- another context, and then that of before
pub put_back : (here between : Current) (cx outside : PlainContext) → between ≡ record here { cx = cx }
    → outside ≡ here.cx → record between { cx = outside } ≡ here
put_back here between cx outside is same = rw (is, same) refl

module _ {P S G C T : Type 0} (calls : Ghosts P) (sampler : sampling.Ghosts S) (ids : drawing.Ghosts G)
    (tells : C → ℕ → C → Type 0) where
  -- a span of this beginning started
  pub record StartsHere (asked : Option PlainSpanBuilder) (old entered : Tracing P S G C T) : Type 0 where
    pub begun : PlainSpanBuilder
    pub is_asked : asked ≡ Some begun
    pub starts : scoping.Starts calls sampler ids tells old begun entered

  -- it did, or no span is current
  pub enters_either : (asked : Option PlainSpanBuilder) (old entered : Tracing P S G C T)
      → Enters calls sampler ids tells old asked entered
      → StartsHere asked old entered ⊎ (entered.current.span ≡ None)
  enters_either None old entered loses = inr loses.beside.0
  enters_either (Some builder) old entered (inl starts) =
      inl (record { begun = builder; is_asked = refl; starts = starts })
  enters_either (Some builder) old entered (inr loses) = inr loses.beside.0

  -- a span that started in a context records so, after edits and as it is settled
  started_as : (cx : PlainContext) (builder : PlainSpanBuilder) (old entered : Tracing P S G C T) (span : PlainSpan)
      (failed : Bool) → builder.span_kind ≡ Some Server → old.current.cx ≡ cx
      → (starts : scoping.Starts calls sampler ids tells old builder entered) → IsEdited starts.span span
      → IfSome (settled failed span).recorded (IsServerSpan cx)
  started_as cx builder old entered span failed kind is starts edited =
      let answers = starts.answers.2 in
      let begins = begins_as calls sampler ids old.provider
      (start_request old.tracer builder old.current.cx starts.answers.0) answers.0 entered.provider kind answers.2 in
      let here : BeginsAs cx answers.0 = subst (λ (c : PlainContext). BeginsAs c answers.0) is begins in
      let same : settled failed span ≡ after (settle_edits failed) (after edited.0 (span_of answers.0)) =
      settled_after failed span ∙ ap (after (settle_edits failed)) (edited.1 ∙ ap (after edited.0) answers.1) in
      rw same (records_as cx answers.0 edited.0 (settle_edits failed) here)

module _ {P S G C T : Type 0} (calls : Ghosts P) (sampler : sampling.Ghosts S) (ids : drawing.Ghosts G)
    (tells : C → ℕ → C → Type 0) (injects : T → Injection)
    (extracts : T → PlainContext → Texts → PlainContext → Type 0) where
  -- what a scope over a provider is
  abbrev pub scoped : holding.Ghosts (Tracing P S G C T)
  scoped = record {
    current = λ scope. scope.current;
    with_current = λ scope here. record scope { current = here };
    tells = λ old moment new. tells old.clock moment new.clock × (new ≡ record old { clock = new.clock });
    enters = Enters calls sampler ids tells;
    leaves = Leaves calls tells;
    injects = λ scope. injects scope.propagator;
    extracts = λ scope. extracts scope.propagator;
  }

  module _ {V : Type 0} (serves : Serving V (Tracing P S G C T)) (cx : PlainContext) (old new : TracedState V (Tracing P S G C T))
      (request : Request (List ℕ)) (response : Response) (served : ServesIn scoped serves cx old request response new)
    where
      -- the span that was current when the service was asked still is at the end, but for edits
      pub stays_said : SpanStays served.inside.entered.current.span served.inside.said.current.span
      stays_said = stays_through served.inside.entered.current.span served.inside.left.current.span
          served.inside.said.current.span served.inside.serves_once.stays
          (here_stays scoped (attribute_edits FIRST_FAILURE response.status) served.inside.left served.inside.told
          served.inside.said served.inside.tells)

      -- what a span records that started for the request
      pub started_for : (started : StartsHere calls sampler ids tells served.asked served.placed served.inside.entered)
          (span : PlainSpan) (failed : Bool) → IsEdited started.starts.span span
          → IfSome (settled failed span).recorded (IsServerSpan cx)
      started_for started span failed edited =
          started_as calls sampler ids tells cx started.begun served.placed served.inside.entered span failed
          (asked_kind (url_scheme old.is_https) old.keeps_query (head_of request) served.asked started.begun served.asks
          started.is_asked)
          (ap (λ (here : Current). here.cx) served.places.is) started.starts edited

      -- the span that was current at the end is the one that started for the request
      pub served_as : (span : PlainSpan) → served.inside.said.current.span ≡ Some span
          → IfSome (settled (nat_le FIRST_FAILURE response.status) span).recorded (IsServerSpan cx)
      served_as span is =
          by (enters_either calls sampler ids tells served.asked served.placed served.inside.entered
          served.inside.starts)
        where
          by : StartsHere calls sampler ids tells served.asked served.placed served.inside.entered
              ⊎ (served.inside.entered.current.span ≡ None)
              → IfSome (settled (nat_le FIRST_FAILURE response.status) span).recorded (IsServerSpan cx)
          by (inl started) =
              let first : served.inside.entered.current.span ≡ Some started.starts.span =
              ap (λ (scope : Tracing P S G C T). scope.current.span) started.starts.rest in
              let left = some_left served.inside.entered.current.span served.inside.said.current.span
              started.starts.span stays_said first in
              let same : left.0 ≡ span = cc in
              started_for started span (nat_le FIRST_FAILURE response.status)
              (subst (λ (s : PlainSpan). IsEdited started.starts.span s) same left.2)
          by (inr none) =
              let gone : served.inside.said.current.span ≡ None =
              none_left served.inside.entered.current.span served.inside.said.current.span stays_said none in
              absurd (cc)
