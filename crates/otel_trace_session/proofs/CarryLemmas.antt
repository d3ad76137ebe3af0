-- A command that took a turn was carried out: each processor follows what the turn delivered.
use Rattle.std.proofs.Common.{◌≡◌, ℕ, List, [], Option, Some, None, Result, MatchBool, map, true, false, Bool, refl, sym, ap, subst}
use Rattle.std.specs.Bool.{OnTrue, OnFalse}
use Rattle.opentelemetry.specs.Plain.{PlainContext, PlainScope}
use Rattle.opentelemetry.specs.PlainContexts.{root_cx}
use Rattle.opentelemetry.specs.PlainSpanBuilder.{PlainSpanBuilder}
use Rattle.otel_export.specs.declared.error.OTelSdkError.{OTelSdkError}
use Rattle.otel_pipeline.specs.Deliveries.{Delivery, EachFollows}
use Rattle.otel_pipeline.specs.ProcessorKeeps.{OnlyAppends}
use Rattle.otel_pipeline.specs.Provider.{ProviderState, ShutsDown, shut_answer}
use Rattle.otel_pipeline.specs.SpanHistory.{SpanHistory, Edit, begun, over, data_of, span_of}
use Rattle.otel_pipeline.proofs.Following.{EachFollows-same, delivered_follows}
use Rattle.otel_trace_lines.specs.declared.reply.Answer.{Answer}
use Rattle.otel_trace_lines.specs.declared.reply.Answer.TheVariants as answers
use Rattle.otel_trace_session.specs.Actions.{PlainAction, PlainCall, at_root, under, from_header, start_span, edit_span, inject_span, end_span, call_provider, link_span, forget_span}
use Rattle.otel_trace_session.specs.Calls.{Calls}
use Rattle.otel_trace_session.specs.Headers.{SaysContext, child_cx}
use Rattle.otel_trace_session.specs.OpenSpans.{AnswersInject, Describe, Histories, NamedSpans, edited_in, forgotten_in, linked_in}
use Rattle.otel_trace_session.specs.ProviderTurns.{CallGives, Shuts, call_answer}
use Rattle.otel_trace_session.specs.SpanTurns.{ChildTurn, EditTurn, EndTurn, ForgetTurn, LinkTurn, Start, StartTurn, StartsAfter, start_in}
use Rattle.otel_trace_session.specs.Turn.{AsksNobody, Course, TurnsFromAny, Turn}
use Rattle.otel_trace_session.specs.Turns.{IsCarriedOut, TakesAction}
use Rattle.otel_trace_session.proofs.ForgetLemmas.{Forgets}
use Rattle.otel_trace_session.proofs.KeptLemmas.{turn_grows}
use Rattle.otel_trace_session.proofs.TurnLemmas.{Childs, Edits, EndsNamed, Links}

-- a turn of which this is so, where something is so of each such turn
pub took_also : {P S G : Type 0} (Is Also : Turn P S G → Type 0) (p q : ProviderState P S G) (old new : NamedSpans) (answer : Answer) → ((turn : Turn P S G) → Is turn → Also turn) → TurnsFromAny Is p old answer q new → TurnsFromAny Also p old answer q new
took_also Is Also p q old new answer also takes = λ before describes.
    let took = takes before describes in
    record { delivered = took.delivered; histories = took.histories; is = also _ took.is; describes = took.describes }

module _ {P S G : Type 0} (calls : Calls P S G) where
  -- each processor follows what a turn delivered
  abbrev FollowsIn : Turn P S G → Type 0
  FollowsIn turn = EachFollows calls.processor turn.delivered turn.before.provider.processors turn.after.provider.processors

  follows_none : (turn : Turn P S G) → turn.delivered ≡ [] → map calls.processor.told turn.after.provider.processors ≡ map calls.processor.told turn.before.provider.processors → FollowsIn turn
  follows_none turn none told = subst (λ (ds : List Delivery). EachFollows calls.processor ds turn.before.provider.processors turn.after.provider.processors) (sym none)
      (EachFollows-same calls.processor turn.before.provider.processors turn.after.provider.processors told)

  nobody_follows : (said : Answer) (histories : Histories) (turn : Turn P S G) → AsksNobody said histories turn → FollowsIn turn
  nobody_follows said histories turn h = follows_none turn h.delivers (ap (λ (c : Course P S G). map calls.processor.told c.provider.processors) h.rest)

  start_follows : (found : Option SpanHistory) (asked : Start) (turn : Turn P S G) → StartsAfter calls found asked turn → FollowsIn turn
  start_follows (Some history) asked turn h = nobody_follows answers.SpanExists turn.before.histories turn h
  start_follows None asked turn h = follows_none turn h.delivers h.told

  child_follows : (found : Option SpanHistory) (asked : Start) (turn : Turn P S G) → ChildTurn calls asked found turn → FollowsIn turn
  child_follows None asked turn h = nobody_follows answers.NoSuchSpan turn.before.histories turn h
  child_follows (Some parent) asked turn h = start_follows (turn.before.histories asked.span) (record asked { cx = child_cx (span_of parent).span_context }) turn h

  end_follows : (found : Option SpanHistory) (span : List ℕ) (moment : ℕ) (turn : Turn P S G) → EndTurn calls.processor span moment found turn → FollowsIn turn
  end_follows None span moment turn h = nobody_follows answers.NoSuchSpan turn.before.histories turn h
  end_follows (Some (over context limits)) span moment turn h = nobody_follows answers.Ignored turn.before.histories turn h
  end_follows (Some (begun from edits)) span moment turn h =
      subst (λ (ds : List Delivery). EachFollows calls.processor ds turn.before.provider.processors turn.after.provider.processors) (sym h.delivers)
      (delivered_follows calls.processor turn.before.provider.is_shut moment (Some (data_of from edits from.start_time)) turn.before.provider.processors turn.after.provider.processors h.refused h.delivered)

module _ {P S G : Type 0} (calls : Calls P S G) (law : OnlyAppends calls.processor calls.timer calls.keeps.stored) (scope : PlainScope) where
  -- an action was carried out in its turn
  carried : (action : PlainAction) (turn : Turn P S G) → FollowsIn calls turn → TakesAction calls scope action turn → IsCarriedOut calls scope action turn
  carried action turn follows h = record { is_turn = h; follows = follows; adds = turn_grows calls law scope action turn h }

  -- a start, as a root, a child, or where a header says
  pub carries_start : (p q : ProviderState P S G) (old new : NamedSpans) (span : List ℕ) (builder : PlainSpanBuilder) (moment : ℕ) (answer : Answer)
      → TurnsFromAny (StartTurn calls (start_in scope root_cx span builder moment)) p old answer q new → TurnsFromAny (IsCarriedOut calls scope (start_span at_root span builder moment)) p old answer q new
  carries_start p q old new span builder moment answer = took_also _ _ p q old new answer
      (λ turn h. carried (start_span at_root span builder moment) turn (start_follows calls (turn.before.histories span) (start_in scope root_cx span builder moment) turn h) h)

  pub carries_child : (p q : ProviderState P S G) (old new : NamedSpans) (span parent : List ℕ) (builder : PlainSpanBuilder) (moment : ℕ) (answer : Answer)
      → TurnsFromAny (Childs calls (start_in scope root_cx span builder moment) parent) p old answer q new → TurnsFromAny (IsCarriedOut calls scope (start_span (under parent) span builder moment)) p old answer q new
  carries_child p q old new span parent builder moment answer = took_also _ _ p q old new answer
      (λ turn h. carried (start_span (under parent) span builder moment) turn (child_follows calls (turn.before.histories parent) (start_in scope root_cx span builder moment) turn h) h)

  pub carries_remote : (p q : ProviderState P S G) (old new : NamedSpans) (span header : List ℕ) (builder : PlainSpanBuilder) (moment : ℕ) (cx : PlainContext) (answer : Answer) → SaysContext header cx
      → TurnsFromAny (StartTurn calls (start_in scope cx span builder moment)) p old answer q new → TurnsFromAny (IsCarriedOut calls scope (start_span (from_header header) span builder moment)) p old answer q new
  carries_remote p q old new span header builder moment cx answer says = took_also _ _ p q old new answer
      (λ turn h. carried (start_span (from_header header) span builder moment) turn (start_follows calls (turn.before.histories span) (start_in scope cx span builder moment) turn h) (record { cx = cx; says = says; starts = h }))

  -- an edit
  pub carries_edit : (p : ProviderState P S G) (old new : NamedSpans) (span : List ℕ) (edit : Edit) (answer : Answer) → Edits old span edit answer new → TurnsFromAny (IsCarriedOut calls scope (edit_span span edit)) p old answer p new
  carries_edit p old new span edit answer made = λ before describes.
      let edited = made before.histories describes in
      let turn : Turn P S G = record { before = record before { provider = p }; answer = answer; delivered = []; after = record before { provider = p; histories = edited_in before.histories span edit } } in
      let h : EditTurn span edit turn = record { says = edited.0; delivers = refl; rest = refl } in
      record { delivered = []; histories = edited_in before.histories span edit; is = carried (edit_span span edit) turn (nobody_follows calls _ _ turn h) h; describes = edited.1 }

  -- a link
  pub carries_link : (p : ProviderState P S G) (old new : NamedSpans) (span target : List ℕ) (answer : Answer) → Links old span target answer new → TurnsFromAny (IsCarriedOut calls scope (link_span span target)) p old answer p new
  carries_link p old new span target answer made = λ before describes.
      let linked = made before.histories describes in
      let turn : Turn P S G = record { before = record before { provider = p }; answer = answer; delivered = []; after = record before { provider = p; histories = linked_in before.histories span target } } in
      let h : LinkTurn span target turn = record { says = linked.0; delivers = refl; rest = refl } in
      record { delivered = []; histories = linked_in before.histories span target; is = carried (link_span span target) turn (nobody_follows calls _ _ turn h) h; describes = linked.1 }

  -- a name that is given up
  pub carries_forget : (p : ProviderState P S G) (old new : NamedSpans) (span : List ℕ) (answer : Answer) → Forgets old span answer new → TurnsFromAny (IsCarriedOut calls scope (forget_span span)) p old answer p new
  carries_forget p old new span answer made = λ before describes.
      let gone = made before.histories describes in
      let turn : Turn P S G = record { before = record before { provider = p }; answer = answer; delivered = []; after = record before { provider = p; histories = forgotten_in before.histories span } } in
      let h : ForgetTurn span turn = record { says = gone.0; delivers = refl; rest = refl } in
      record { delivered = []; histories = forgotten_in before.histories span; is = carried (forget_span span) turn (nobody_follows calls _ _ turn h) h; describes = gone.1 }

  -- the headers of a span
  pub carries_inject : (p : ProviderState P S G) (spans : NamedSpans) (span : List ℕ) (answer : Answer) → ((histories : Histories) → Describe histories spans → AnswersInject (histories span) answer)
      → TurnsFromAny (IsCarriedOut calls scope (inject_span span)) p spans answer p spans
  carries_inject p spans span answer says = λ before describes.
      let turn : Turn P S G = record { before = record before { provider = p }; answer = answer; delivered = []; after = record before { provider = p } } in
      record { delivered = []; histories = before.histories; is = carried (inject_span span) turn (follows_none calls turn refl refl) (record { says = says before.histories describes; delivers = refl; rest = refl }); describes = describes }

  -- an end
  pub carries_end : (p q : ProviderState P S G) (old new : NamedSpans) (span : List ℕ) (moment : ℕ) (answer : Answer)
      → TurnsFromAny (EndsNamed calls.processor span moment) p old answer q new → TurnsFromAny (IsCarriedOut calls scope (end_span span moment)) p old answer q new
  carries_end p q old new span moment answer = took_also _ _ p q old new answer
      (λ turn h. carried (end_span span moment) turn (end_follows calls (turn.before.histories span) span moment turn h) h)

  -- a call of the provider
  pub carries_call : (call : PlainCall) (p q : ProviderState P S G) (spans : NamedSpans) (said : Result (Unit {0}) OTelSdkError)
      → CallGives calls call p said q → EachFollows calls.processor [] p.processors q.processors → TurnsFromAny (IsCarriedOut calls scope (call_provider call)) p spans (call_answer said) q spans
  carries_call call p q spans said gives follows = λ before describes.
      let turn : Turn P S G = record { before = record before { provider = p }; answer = call_answer said; delivered = []; after = record before { provider = q } } in
      record { delivered = []; histories = before.histories; is = carried (call_provider call) turn follows (record { said = said; gives = gives; says = refl; delivers = refl; rest = refl }); describes = describes }

-- a shutdown, by what is promised of a second one and of a first one
pub shuts_by : {P S G : Type 0} (calls : Calls P S G) (p q : ProviderState P S G) (said : Result (Unit {0}) OTelSdkError)
    → OnTrue p.is_shut ((said ≡ shut_answer p.is_disabled p.processors) × (q ≡ p)) → OnFalse p.is_shut (ShutsDown calls.processor p 5_000_000_000 said q) → Shuts calls.processor p said q
shuts_by {P} {S} {G} calls p q said again first = by p.is_shut again first
  where
    by : (is_shut : Bool) → OnTrue is_shut ((said ≡ shut_answer p.is_disabled p.processors) × (q ≡ p)) → OnFalse is_shut (ShutsDown calls.processor p 5_000_000_000 said q)
        → MatchBool is_shut ((said ≡ shut_answer p.is_disabled p.processors) × (q ≡ p)) (ShutsDown calls.processor p 5_000_000_000 said q)
    by true again first = again
    by false again first = first
