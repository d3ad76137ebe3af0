-- Each span of a trace agrees with its root where samplers go by parents.
use Rattle.std.proofs.Common.{◌≡◌, ℕ, ◌%◌, ◌<◌, ◌^◌, ◌⊎◌, inl, inr, Bool, true, false, ◌||◌, List, [], ◌∷◌, All, MatchBool, ⊎_elim, refl, sym, subst, ap, ◌∙◌, arith}
use Rattle.std.specs.Prelude.{Option, Some, unwrap_or, ◌==◌, if◌then◌else◌}
use Rattle.std.proofs.lemmas.Bool.{both_ways, eqb-true, eq-eqb}
use Rattle.std.proofs.lemmas.List.Elements.{All-nil, All-cons}
use Rattle.opentelemetry.specs.Plain.{PlainContext, PlainSpanContext}
use Rattle.opentelemetry.specs.PlainContexts.{current_span_context, empty_span_context}
use Rattle.otel_sampling.specs.Agreement.{Agrees}
use Rattle.otel_sampling.specs.Sampler.{SamplerPlan, active_in, built_in, by_parent, parent_based, parent_decision, sampler_answer}
use Rattle.otel_sampling.specs.Sampling.{SamplingQuestion, PlainSamplingResult}
use Rattle.otel_sampling.specs.declared.trace.id_generator.GivesIds as drawing
use Rattle.otel_sampling.specs.declared.trace.sampler.SamplingDecision.{SamplingDecision}
use Rattle.otel_sampling.specs.declared.trace.sampler.SamplingDecision.TheVariants as decisions
use Rattle.otel_sampling.specs.declared.trace.sampler.ShouldSample as sampling
use Rattle.opentelemetry.specs.Tracestate.{ArePairs}
use Rattle.otel_propagation.specs.Traceparent.{IsSpanContext, IsValid, remote_copy}
use Rattle.otel_propagation.proofs.TraceparentLemmas.{injected_carries}
use Rattle.otel_pipeline.specs.Hops.{AreDrawnHops, AreHops, EachStartBelow, GoesByParent, IsAnsweredChild, IsChild, IsDrawnChild, IsPassedOn, IsReceived}
use Rattle.otel_pipeline.specs.Provider.{unstarted_context, ProviderState}
use Rattle.otel_pipeline.specs.SpanHistory.{SpanHistory, SpanStart, over, span_of}
use Rattle.otel_pipeline.specs.StartRequest.{StartRequest, start_flags, start_moment, start_question, start_span_context}
use Rattle.otel_pipeline.specs.Starting.{DecidesStart, DrawsTraceId, Starts, StartsOpen}
use Rattle.otel_pipeline.specs.declared.trace.span_processor.SpanProcessor.{Ghosts}

-- a child has its parent's sampled flag
flag_kept : (parent : PlainSpanContext) (b : Bool) → (parent.trace_flags % 2 == 1) ≡ b
    → start_flags parent (if b then decisions.RecordAndSample else decisions.Drop) % 2 ≡ parent.trace_flags % 2
flag_kept parent true is = let one = eqb-true (parent.trace_flags % 2) 1 is in omega (arith, one)
flag_kept parent false is =
    let other = λ (e : parent.trace_flags % 2 ≡ 1). both_ways (parent.trace_flags % 2 == 1) is (eq-eqb (parent.trace_flags % 2) 1 e) in
    omega (arith, other)

pub child_agrees : (root parent child : PlainSpanContext) → Agrees root parent → IsChild parent child → Agrees root child
child_agrees root parent child agrees (span_id, is) = record {
  trace_id = ap (λ (c : PlainSpanContext). c.trace_id) is ∙ agrees.trace_id;
  sampled = ap (λ (c : PlainSpanContext). c.trace_flags % 2) is ∙ flag_kept parent (parent.trace_flags % 2 == 1) refl ∙ agrees.sampled;
  trace_state = ap (λ (c : PlainSpanContext). c.trace_state) is ∙ agrees.trace_state;
}

some_is : {X : Type 0} (x y : X) → Some x ≡ Some y → x ≡ y
some_is {X = X} x y is = ap (λ (o : Option X). unwrap_or o x) is

-- what is received of a valid span context is the same, remote, with the sampled flag alone
received_is : (sent received : PlainSpanContext) → IsSpanContext sent → IsValid sent → IsReceived sent received → received ≡ remote_copy sent
received_is sent received fits valid passed =
    let is = ap (λ (a : Option PlainSpanContext). unwrap_or a empty_span_context) passed.sends in
    let carried = injected_carries passed.sender passed.before passed.headers (rw is fits) (rw is valid) passed.injects
    passed.receiver passed.found passed.extracts in
    some_is received (remote_copy sent)
    (sym passed.receives ∙ ap (λ (cx : PlainContext). cx.span_context) carried ∙ ap (λ (c : PlainSpanContext). Some (remote_copy c)) is)

passed_on_agrees : (root sent received : PlainSpanContext) → Agrees root sent → IsPassedOn sent received → Agrees root received
passed_on_agrees root sent received agrees passed =
    let is = received_is sent received passed.is_span_context passed.is_valid passed.is_received in
    record {
      trace_id = ap (λ (c : PlainSpanContext). c.trace_id) is ∙ agrees.trace_id;
      sampled = ap (λ (c : PlainSpanContext). c.trace_flags % 2) is ∙ omega (arith, agrees.sampled);
      trace_state = ap (λ (c : PlainSpanContext). c.trace_state) is ∙ agrees.trace_state;
    }

pub hops_agree : (root before : PlainSpanContext) (hops : List PlainSpanContext) → Agrees root before → AreHops before hops → All (Agrees root) hops
hops_agree root before [] agrees are = All-nil (Agrees root)
hops_agree root before (next ∷ more) agrees (hop, rest) =
    let also = ⊎_elim (child_agrees root before next agrees) (passed_on_agrees root before next agrees) hop in
    All-cons (Agrees root) next more also (hops_agree root next more also rest)

-- a span context as a program has it, and valid
abbrev IsGood : PlainSpanContext → Type 0
IsGood c = IsSpanContext c × IsValid c

-- so are a child of a good one whose span id was drawn, and what is received of it
good_child : (parent child : PlainSpanContext) → IsGood parent → IsDrawnChild parent child → IsGood child
good_child parent child (fits, valid) drawn =
    let is = drawn.is_child.1 in
    let trace_id : child.trace_id ≡ parent.trace_id = ap (λ (c : PlainSpanContext). c.trace_id) is in
    let trace_state : child.trace_state ≡ parent.trace_state = ap (λ (c : PlainSpanContext). c.trace_state) is in (
      record {
        trace_id = subst (λ (n : ℕ). n < 2 ^ 128) (sym trace_id) fits.trace_id;
        span_id = drawn.is_span_id.1;
        trace_state = subst ArePairs (sym trace_state) fits.trace_state;
      },
      (subst (λ (n : ℕ). 0 < n) (sym trace_id) valid.0, drawn.is_span_id.0),
    )

good_copy : (sent : PlainSpanContext) → IsGood sent → IsGood (remote_copy sent)
good_copy sent (fits, valid) = (record { trace_id = fits.trace_id; span_id = fits.span_id; trace_state = fits.trace_state }, valid)

-- one hop from a good span context: the next one is good, and one that was sent was
good_hop : (before next : PlainSpanContext) → IsGood before → IsDrawnChild before next ⊎ IsReceived before next → IsGood next × (IsChild before next ⊎ IsPassedOn before next)
good_hop before next good (inl drawn) = (good_child before next good drawn, inl drawn.is_child)
good_hop before next good (inr received) = (
  subst IsGood (sym (received_is before next good.0 good.1 received)) (good_copy before good),
  inr (record { is_valid = good.1; is_span_context = good.0; is_received = received }),
)

-- all hops from one
pub good_hops : (before : PlainSpanContext) (hops : List PlainSpanContext) → IsSpanContext before → IsValid before → AreDrawnHops before hops → All IsSpanContext hops × All IsValid hops × AreHops before hops
good_hops before [] fits valid are = (All-nil IsSpanContext, All-nil IsValid, tt)
good_hops before (next ∷ more) fits valid (hop, others) =
    let one = good_hop before next (fits, valid) hop in
    let rest = good_hops next more one.0.0 one.0.1 others in
    (All-cons IsSpanContext next more one.0.0 rest.0, All-cons IsValid next more one.0.1 rest.1, (one.1, rest.2))

module _ {P : Type 0} (calls : Ghosts P) where
  -- whatever was decided, a span has the context of its start
  decided_context : (decision : SamplingDecision) (cx : PlainContext) (start : SpanStart) (old new : List P) (history : SpanHistory)
      → DecidesStart calls decision cx start old new history → (span_of history).span_context ≡ start.span_context
  decided_context decisions.Drop cx start old new history decided = ap (λ (h : SpanHistory). (span_of h).span_context) decided.0
  decided_context decisions.RecordOnly cx start old new history decided = ap (λ (h : SpanHistory). (span_of h).span_context) decided.history_is
  decided_context decisions.RecordAndSample cx start old new history decided = ap (λ (h : SpanHistory). (span_of h).span_context) decided.history_is

-- a sampler by parents answers for the active span
pub goes_by_parents : {C : Type 0} (custom : C → SamplingQuestion → PlainSamplingResult) (made delegate : SamplerPlan C) (question : SamplingQuestion) (parent : PlainSpanContext)
    → made ≡ parent_based delegate → active_in question.parent_context ≡ Some parent
    → sampler_answer custom made question ≡ built_in (parent_decision parent) (Some parent)
goes_by_parents {C} custom made delegate question parent based active =
    ap (λ (p : SamplerPlan C). sampler_answer custom p question) based
    ∙ ap (λ (a : Option PlainSpanContext). by_parent a (sampler_answer custom delegate question).decision) active

module _ {P S G : Type 0} (calls : Ghosts P) (sampler : sampling.Ghosts S) (ids : drawing.Ghosts G) where
  -- a start at an open provider, in a context that is not suppressed
  opens : (old new : ProviderState P S G) (request : StartRequest) (history : SpanHistory) → old.is_shut ≡ false → request.cx.telemetry_suppressed ≡ false
      → Starts calls sampler ids old request history new → StartsOpen calls sampler ids old request history new
  opens old new request history is_open unsuppressed starts =
      let runs : (old.is_shut || request.cx.telemetry_suppressed) ≡ false = λ k. is_open k || unsuppressed k in
      subst (λ (b : Bool). MatchBool b ((history ≡ over (unstarted_context old request.cx) old.span_limits) × (new ≡ old)) (StartsOpen calls sampler ids old request history new)) runs starts

  -- a start below the active span goes by what the sampler answers
  pub answered_under : EachStartBelow calls sampler ids (λ s request parent child. IsAnsweredChild parent (sampler.answer s (start_question request.cx parent.trace_id request.builder)) child)
  answered_under old new request history parent below =
      let started = opens old new request history below.is_open below.is_unsuppressed below.starts in
      let active = below.is_active in
      let is_parent : current_span_context request.cx ≡ parent = ap (λ (a : Option PlainSpanContext). unwrap_or a empty_span_context) active in
      let drawn : DrawsTraceId ids (Some parent) (start_moment request.builder request.now) started.draws.between started.trace_id new.id_generator =
      subst (λ (a : Option PlainSpanContext). DrawsTraceId ids a (start_moment request.builder request.now) started.draws.between started.trace_id new.id_generator) active started.draws.draws_trace_id in
      let answered : started.answer ≡ sampler.answer old.sampler (start_question request.cx parent.trace_id request.builder) =
      started.asks ∙ ap (λ (id : ℕ). sampler.answer old.sampler (start_question request.cx id request.builder)) drawn.0 in (
        started.span_id,
        decided_context calls started.answer.decision request.cx _ old.processors new.processors history started.decided
            ∙ (λ k. start_span_context (is_parent k) (drawn.0 k) started.span_id (answered k)),
      )

  -- a start under a sampler that goes by the active span makes a child of that one
  pub child_under : EachStartBelow calls sampler ids (λ s _ parent child. GoesByParent sampler s parent → IsChild parent child)
  child_under old new request history parent below by_parent =
      subst (λ (answer : PlainSamplingResult). IsAnsweredChild parent answer (span_of history).span_context)
      (by_parent (start_question request.cx parent.trace_id request.builder) below.is_active)
      (answered_under old new request history parent below)

  -- and a hop, where the span id that it drew is not zero
  pub hop_under : EachStartBelow calls sampler ids (λ s _ parent child. GoesByParent sampler s parent → 0 < child.span_id → IsDrawnChild parent child)
  hop_under old new request history parent below by_parent drawn =
      let started = opens old new request history below.is_open below.is_unsuppressed below.starts in
      let context = decided_context calls started.answer.decision request.cx _ old.processors new.processors history started.decided in
      record {
        is_child = child_under old new request history parent below by_parent;
        is_span_id = (drawn, subst (λ (n : ℕ). n < 2 ^ 64) (sym (ap (λ (c : PlainSpanContext). c.span_id) context)) started.draws.fits);
      }
