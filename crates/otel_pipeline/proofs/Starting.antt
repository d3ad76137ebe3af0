-- What a start makes.
use Rattle.std.proofs.Common.{◌≡◌, ◌≢◌, ◌⊎◌, inl, inr, ℕ, Bool, true, false, ◌||◌, List, [], ◌∷◌, map, MatchBool, Option, Some, None, Result, Ok, Err, refl, sym, subst, ap, ◌∙◌}
use Rattle.std.specs.Prelude.{MatchOption}
use Rattle.std.specs.declared.alloc.AllocError.{AllocError}
use Rattle.opentelemetry.specs.Plain.{PlainContext}
use Rattle.otel_sampling.specs.declared.trace.sampler.SamplingDecision.{SamplingDecision}
use Rattle.otel_sampling.specs.declared.trace.sampler.SamplingDecision.TheVariants as decisions
use Rattle.otel_sampling.specs.declared.trace.sampler.ShouldSample as sampling
use Rattle.otel_sampling.specs.declared.trace.id_generator.GivesIds as drawing
use Rattle.otel_sampling.specs.Sampling.{PlainSamplingResult}
use Rattle.otel_pipeline.specs.Provider.{unstarted_context, ProviderState}
use Rattle.otel_pipeline.specs.StartRequest.{StartRequest, start_as, start_moment, start_question}
use Rattle.otel_export.specs.PlainSpanData.{PlainSpanData}
use Rattle.otel_pipeline.specs.Starting.{AnswersStart, OnlyDraws, RefusesStart, DrawsIds, PassesThrough, Records, DecidesStart, Prepares, PreparesAs, PreparesOpen, Starts, StartsOpen, TellsStart}
use Rattle.otel_pipeline.specs.SpanHistory.{Edit, PlainSpan, SpanStart, SpanHistory, begun, data_of, edited, over, span_of, IsEdited, after, recording, not_recording}
use Rattle.otel_pipeline.specs.declared.trace.span_processor.SpanProcessor.{Ghosts}
use Rattle.otel_pipeline.proofs.SpanLaws.{after-recording}

-- what holds in the case of true
pub taken : (A B : Type 0) (b : Bool) → b ≡ true → MatchBool b A B → A
taken A B true e h = h
taken A B false e h = let no : ⊥ = cc in absurd no

-- edits leave who a span is
same_context : (edits : List Edit) (span : PlainSpan) → (after edits span).span_context ≡ span.span_context
same_context [] span = refl
same_context (edit ∷ edits) span = same_context edits (edited edit span)

module _ {P : Type 0} (calls : Ghosts P) where
  -- a span that records passed through the processors
  records : (cx : PlainContext) (start : SpanStart) (old new : List P) (first span : PlainSpan) → first ≡ recording start [] → IsEdited first span → PassesThrough calls cx first old new span
      → (history : SpanHistory) × (span ≡ span_of history) × Records calls cx start old new history
  records cx start old new first span e edited passed =
      let span_is : span ≡ recording start edited.0 = edited.1 ∙ ap (after edited.0) e ∙ after-recording start [] edited.0 in
      let through : PassesThrough calls cx (recording start []) old new span = subst (λ (s : PlainSpan). PassesThrough calls cx s old new span) e passed in (
        begun start edited.0,
        span_is,
        record {
          edits = edited.0;
          history_is = refl;
          passes = subst (λ (s : PlainSpan). PassesThrough calls cx (recording start []) old new s) span_is through;
        },
      )

  -- a span that passes through processors leaves what they tell
  passes_told : (cx : PlainContext) (span : PlainSpan) (old new : List P) (later : PlainSpan) → PassesThrough calls cx span old new later → map calls.told new ≡ map calls.told old
  passes_told cx span [] [] later h = refl
  passes_told cx span [] (q ∷ qs) later h = absurd h
  passes_told cx span (p ∷ ps) [] later h = absurd h
  passes_told cx span (p ∷ ps) (q ∷ qs) later h = λ k. h.1.told k ∷ passes_told cx h.0 ps qs later h.2 k

  -- and so does a start, whatever the sampler decided
  decided_told : (decision : SamplingDecision) (cx : PlainContext) (start : SpanStart) (old new : List P) (history : SpanHistory)
      → DecidesStart calls decision cx start old new history → map calls.told new ≡ map calls.told old
  decided_told decisions.Drop cx start old new history h = ap (map calls.told) h.1
  decided_told decisions.RecordOnly cx start old new history h = passes_told cx (recording start []) old new (recording start h.edits) h.passes
  decided_told decisions.RecordAndSample cx start old new history h = passes_told cx (recording start []) old new (recording start h.edits) h.passes

module _ {P S G : Type 0} (calls : Ghosts P) (sampler : sampling.Ghosts S) (ids : drawing.Ghosts G) where
  -- what the sampler decided, from the provider after the draws
  opened : (old drawn new : ProviderState P S G) (request : StartRequest) (trace_id span_id : ℕ) (answer : PlainSamplingResult) (history : SpanHistory)
      → (old.is_shut || request.cx.telemetry_suppressed) ≡ false
      → DrawsIds ids request.cx.span_context (start_moment request.builder request.now) old.id_generator trace_id span_id drawn.id_generator → drawn ≡ record old { id_generator = drawn.id_generator }
      → answer ≡ sampler.answer drawn.sampler (start_question request.cx trace_id request.builder)
      → DecidesStart calls answer.decision request.cx (start_as request old.span_limits trace_id span_id answer) drawn.processors new.processors history
      → new ≡ record drawn { processors = new.processors }
      → Starts calls sampler ids old request history new
  opened old drawn new request trace_id span_id answer history h draws d asked decided rest =
      let start : SpanStart = start_as request old.span_limits trace_id span_id answer in
      let same : drawn.processors ≡ old.processors = ap (λ (p : ProviderState P S G). p.processors) d in
      let generator : new.id_generator ≡ drawn.id_generator = ap (λ (p : ProviderState P S G). p.id_generator) rest in
      let result : StartsOpen calls sampler ids old request history new = record {
        trace_id = trace_id;
        span_id = span_id;
        answer = answer;
        draws = subst (λ (g : G). DrawsIds ids request.cx.span_context (start_moment request.builder request.now) old.id_generator trace_id span_id g) (sym generator) draws;
        asks = subst (λ (s : S). answer ≡ sampler.answer s (start_question request.cx trace_id request.builder)) (ap (λ (p : ProviderState P S G). p.sampler) d) asked;
        decided = subst (λ (ps : List P). DecidesStart calls answer.decision request.cx start ps new.processors history) same decided;
        rest = rest ∙ ap (λ (p : ProviderState P S G). record p { processors = new.processors }) d
            ∙ ap (λ (g : G). record old { processors = new.processors; id_generator = g }) (sym generator);
      } in
      subst (λ (b : Bool). MatchBool b ((history ≡ over (unstarted_context old request.cx) old.span_limits) × (new ≡ old)) (StartsOpen calls sampler ids old request history new)) (sym h) result

  -- a prepared span that no processor is told of
  untold : (decision : SamplingDecision) (cx : PlainContext) (start : SpanStart) (prepared : PlainSpan) (ps : List P)
      → PreparesAs decision start prepared → prepared.recorded ≡ None
      → (history : SpanHistory) × (prepared ≡ span_of history) × DecidesStart calls decision cx start ps ps history
  untold decisions.Drop cx start prepared ps is none = (over start.span_context start.limits, is, (refl, refl))
  untold decisions.RecordOnly cx start prepared ps is none =
      absurd (let no : None ≡ Some (data_of start [] start.start_time) = sym none ∙ ap (λ (s : PlainSpan). s.recorded) is in cc)
  untold decisions.RecordAndSample cx start prepared ps is none =
      absurd (let no : None ≡ Some (data_of start [] start.start_time) = sym none ∙ ap (λ (s : PlainSpan). s.recorded) is in cc)

  -- one that the processors are told of
  told : (decision : SamplingDecision) (cx : PlainContext) (start : SpanStart) (prepared span : PlainSpan) (old new : List P)
      (recorded : PlainSpanData) → PreparesAs decision start prepared → prepared.recorded ≡ Some recorded
      → IsEdited prepared span → PassesThrough calls cx prepared old new span
      → (history : SpanHistory) × (span ≡ span_of history) × DecidesStart calls decision cx start old new history
  told decisions.Drop cx start prepared span old new recorded is some edited passed =
      absurd (let no : Some recorded ≡ None = sym some ∙ ap (λ (s : PlainSpan). s.recorded) is in cc)
  told decisions.RecordOnly cx start prepared span old new recorded is some edited passed =
      records calls cx start old new prepared span is edited passed
  told decisions.RecordAndSample cx start prepared span old new recorded is some edited passed =
      records calls cx start old new prepared span is edited passed

  -- what was decided of a prepared span, once its start was told
  decided : (recorded : Option PlainSpanData) (decision : SamplingDecision) (cx : PlainContext) (start : SpanStart)
      (prepared span : PlainSpan) (old new : ProviderState P S G) → PreparesAs decision start prepared
      → prepared.recorded ≡ recorded
      → MatchOption recorded ((span ≡ prepared) × (new ≡ old)) (λ _. IsEdited prepared span
      × PassesThrough calls cx prepared old.processors new.processors span × (new ≡ record old { processors = new.processors }))
      → (history : SpanHistory) × (span ≡ span_of history)
      × DecidesStart calls decision cx start old.processors new.processors history
      × (new ≡ record old { processors = new.processors })
  decided None decision cx start prepared span old new is none tells =
      let what = untold decision cx start prepared old.processors is none in (
        what.0,
        tells.0 ∙ what.1,
        subst (λ (p : ProviderState P S G). DecidesStart calls decision cx start old.processors p.processors what.0)
            (sym tells.1) what.2,
        tells.1 ∙ ap (λ (p : ProviderState P S G). record old { processors = p.processors }) (sym tells.1),
      )
  decided (Some recorded) decision cx start prepared span old new is some tells =
      let what = told decision cx start prepared span old.processors new.processors recorded is some tells.0 tells.1 in
      (what.0, what.1, what.2, tells.2)

  -- a prepared span whose start is told has started
  pub prepared_starts : (old between new : ProviderState P S G) (request : StartRequest) (prepared span : PlainSpan)
      → Prepares sampler ids old request prepared between → TellsStart calls request.cx prepared between span new
      → (history : SpanHistory) × (span ≡ span_of history) × Starts calls sampler ids old request history new
  prepared_starts old between new request prepared span h tells = by (old.is_shut || request.cx.telemetry_suppressed) refl h
    where
      by : (b : Bool) → (old.is_shut || request.cx.telemetry_suppressed) ≡ b
          → MatchBool b ((prepared ≡ not_recording (unstarted_context old request.cx) old.span_limits) × (between ≡ old))
          (PreparesOpen sampler ids old request prepared between)
          → (history : SpanHistory) × (span ≡ span_of history) × Starts calls sampler ids old request history new
      by true is k =
          let none : prepared.recorded ≡ None = ap (λ (s : PlainSpan). s.recorded) k.0 in
          let same : (span ≡ prepared) × (new ≡ between) =
          subst (λ (r : Option PlainSpanData). MatchOption r ((span ≡ prepared) × (new ≡ between))
          (λ _. IsEdited prepared span × PassesThrough calls request.cx prepared between.processors new.processors span
          × (new ≡ record between { processors = new.processors }))) none tells in
          let history : SpanHistory = over (unstarted_context old request.cx) old.span_limits in (
            history,
            same.0 ∙ k.0,
            subst (λ (b : Bool). MatchBool b ((history ≡ over (unstarted_context old request.cx) old.span_limits)
                × (new ≡ old)) (StartsOpen calls sampler ids old request history new)) (sym is) (refl, same.1 ∙ k.1),
          )
      by false is k =
          let start : SpanStart = start_as request old.span_limits k.trace_id k.span_id k.answer in
          let what = decided prepared.recorded k.answer.decision request.cx start prepared span between new k.decided
          refl tells in
          let asks : k.answer ≡ sampler.answer between.sampler (start_question request.cx k.trace_id request.builder) =
          subst (λ (p : ProviderState P S G). k.answer ≡ sampler.answer p.sampler
          (start_question request.cx k.trace_id request.builder)) (sym k.rest) k.asks in (
            what.0,
            what.1,
            opened old between new request k.trace_id k.span_id k.answer what.0 is k.draws k.rest asks what.2 what.3,
          )

  -- the context of a span stays as it was prepared
  pub told_context : (cx : PlainContext) (prepared span : PlainSpan) (old new : ProviderState P S G)
      → TellsStart calls cx prepared old span new → span.span_context ≡ prepared.span_context
  told_context cx prepared span old new tells = by prepared.recorded tells
    where
      by : (r : Option PlainSpanData) → MatchOption r ((span ≡ prepared) × (new ≡ old)) (λ _. IsEdited prepared span
          × PassesThrough calls cx prepared old.processors new.processors span
          × (new ≡ record old { processors = new.processors })) → span.span_context ≡ prepared.span_context
      by None h = ap (λ (s : PlainSpan). s.span_context) h.0
      by (Some recorded) h = ap (λ (s : PlainSpan). s.span_context) h.0.1 ∙ same_context h.0.0 prepared

  -- all that a start may change of a provider
  abbrev ChangesOnly : ProviderState P S G → ProviderState P S G → Type 0
  ChangesOnly old new = new ≡ record old { processors = new.processors; id_generator = new.id_generator }

  -- a start changes the processors and the generator alone, and each processor tells what it told
  starts_keep : (starts_nothing : Bool) (old new : ProviderState P S G) (request : StartRequest) (history : SpanHistory)
      → MatchBool starts_nothing ((history ≡ over (unstarted_context old request.cx) old.span_limits) × (new ≡ old)) (StartsOpen calls sampler ids old request history new)
      → (map calls.told new.processors ≡ map calls.told old.processors) × ChangesOnly old new
  starts_keep true old new request history h = (
    ap (λ (p : ProviderState P S G). map calls.told p.processors) h.1,
    h.1 ∙ ap (λ (p : ProviderState P S G). record old { processors = p.processors; id_generator = p.id_generator }) (sym h.1),
  )
  starts_keep false old new request history h = (decided_told calls h.answer.decision request.cx _ old.processors new.processors history h.decided, h.rest)

  -- and so does one that found no memory
  refused_keeps : (starts_nothing : Bool) (old new : ProviderState P S G) (request : StartRequest)
      → MatchBool starts_nothing ((old.is_disabled ≡ true) × (new ≡ old)) (OnlyDraws sampler ids old request.builder request.cx request.now new)
      → (map calls.told new.processors ≡ map calls.told old.processors) × ChangesOnly old new
  refused_keeps true old new request h = (
    ap (λ (p : ProviderState P S G). map calls.told p.processors) h.1,
    h.1 ∙ ap (λ (p : ProviderState P S G). record old { processors = p.processors; id_generator = p.id_generator }) (sym h.1),
  )
  refused_keeps false old new request h = (
    ap (λ (p : ProviderState P S G). map calls.told p.processors) h.rest,
    h.rest ∙ ap (λ (p : ProviderState P S G). record old { processors = p.processors; id_generator = new.id_generator }) (sym h.rest),
  )

  answers_keep : (old new : ProviderState P S G) (request : StartRequest) (result : Result PlainSpan AllocError) → AnswersStart calls sampler ids old request result new
      → (map calls.told new.processors ≡ map calls.told old.processors) × ChangesOnly old new
  answers_keep old new request (Ok span) h = starts_keep (old.is_shut || request.cx.telemetry_suppressed) old new request h.0 h.2
  answers_keep old new request (Err e) h = refused_keeps (old.is_shut || request.cx.telemetry_suppressed) old new request h

  -- whatever it answers
  pub answers_told : (old new : ProviderState P S G) (request : StartRequest) (result : Result PlainSpan AllocError) → AnswersStart calls sampler ids old request result new
      → map calls.told new.processors ≡ map calls.told old.processors
  answers_told old new request result h = (answers_keep old new request result h).0

  pub answers_rest : (old new : ProviderState P S G) (request : StartRequest) (result : Result PlainSpan AllocError) → AnswersStart calls sampler ids old request result new → ChangesOnly old new
  answers_rest old new request result h = (answers_keep old new request result h).1

  -- a start that found no memory did nothing, or drew ids
  pub refused_draws : (old new : ProviderState P S G) (request : StartRequest) → RefusesStart sampler ids old request new
      → (new ≡ old) ⊎ OnlyDraws sampler ids old request.builder request.cx request.now new
  refused_draws old new request h = by (old.is_shut || request.cx.telemetry_suppressed) h
    where
      by : (b : Bool) → MatchBool b ((old.is_disabled ≡ true) × (new ≡ old)) (OnlyDraws sampler ids old request.builder request.cx request.now new)
          → (new ≡ old) ⊎ OnlyDraws sampler ids old request.builder request.cx request.now new
      by true k = inl k.1
      by false k = inr k

module _ {P S G : Type 0} (sampler : sampling.Ghosts S) (ids : drawing.Ghosts G) where
  -- where nothing starts
  pub prepares_none : (old : ProviderState P S G) (request : StartRequest) (span : PlainSpan)
      → (old.is_shut || request.cx.telemetry_suppressed) ≡ true
      → span ≡ not_recording (unstarted_context old request.cx) old.span_limits → Prepares sampler ids old request span old
  prepares_none old request span h is =
      subst (λ (b : Bool). MatchBool b ((span ≡ not_recording (unstarted_context old request.cx) old.span_limits)
      × (old ≡ old)) (PreparesOpen sampler ids old request span old)) (sym h) (is, refl)

  -- where ids were drawn and the sampler was asked
  pub prepares_open : (old drawn : ProviderState P S G) (request : StartRequest) (trace_id span_id : ℕ)
      (answer : PlainSamplingResult) (span : PlainSpan) → (old.is_shut || request.cx.telemetry_suppressed) ≡ false
      → DrawsIds ids request.cx.span_context (start_moment request.builder request.now) old.id_generator trace_id span_id
      drawn.id_generator → drawn ≡ record old { id_generator = drawn.id_generator }
      → answer ≡ sampler.answer drawn.sampler (start_question request.cx trace_id request.builder)
      → PreparesAs answer.decision (start_as request old.span_limits trace_id span_id answer) span
      → Prepares sampler ids old request span drawn
  prepares_open old drawn request trace_id span_id answer span h draws rest asked decided =
      subst (λ (b : Bool). MatchBool b ((span ≡ not_recording (unstarted_context old request.cx) old.span_limits)
      × (drawn ≡ old)) (PreparesOpen sampler ids old request span drawn)) (sym h) (record {
        trace_id = trace_id;
        span_id = span_id;
        answer = answer;
        draws = draws;
        asks = subst (λ (s : S). answer ≡ sampler.answer s (start_question request.cx trace_id request.builder))
            (ap (λ (p : ProviderState P S G). p.sampler) rest) asked;
        decided = decided;
        rest = rest;
      })

-- the sampler dropped the span
pub prepared_dropped : (decision : SamplingDecision) (start : SpanStart) (span : PlainSpan) → decision ≡ decisions.Drop
    → span ≡ not_recording start.span_context start.limits → PreparesAs decision start span
prepared_dropped decision start span drops is = subst (λ (d : SamplingDecision). PreparesAs d start span) (sym drops) is

-- or did not
pub prepared_recording : (decision : SamplingDecision) (start : SpanStart) (span : PlainSpan) → decision ≢ decisions.Drop
    → span ≡ recording start [] → PreparesAs decision start span
prepared_recording decisions.Drop start span kept is = absurd (kept refl)
prepared_recording decisions.RecordOnly start span kept is = is
prepared_recording decisions.RecordAndSample start span kept is = is
