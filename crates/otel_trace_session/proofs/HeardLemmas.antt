-- What the processors of a session hear of all that its commands deliver: a processor closes at a shutdown of the
-- provider alone, and nothing is delivered after that.
use Rattle.std.proofs.Common.{◌≡◌, ℕ, Bool, true, false, List, [], ◌∷◌, ◌++◌, map, Option, Some, None, Result, MatchBool, refl, sym, ◌∙◌, ap, subst}
use Rattle.opentelemetry.specs.Plain.{PlainScope}
use Rattle.opentelemetry.specs.PlainContexts.{root_cx}
use Rattle.opentelemetry.specs.PlainSpanBuilder.{PlainSpanBuilder}
use Rattle.otel_export.specs.declared.error.OTelSdkError.{OTelSdkError}
use Rattle.otel_export.specs.PlainSpanData.{PlainSpanData}
use Rattle.otel_pipeline.specs.Deliveries.{Delivery, EachFollows, EachOpenHears}
use Rattle.otel_pipeline.specs.Ending.{Delivers, TakesAndTells, end_delivers}
use Rattle.otel_pipeline.specs.Each.{error_count}
use Rattle.otel_pipeline.specs.Provider.{FlushesProcessor, ProviderState, RunsProcessor, ShutsDown, shut_answer}
use Rattle.otel_pipeline.specs.SpanHistory.{SpanHistory, begun, over, span_of}
use Rattle.otel_pipeline.proofs.Following.{EachFollows-same, EachFollows-append, EachStays, hears_first, hears_no_delivery, hears_on, stays_same, stays_asked}
use Rattle.otel_trace_lines.specs.Commands.{PlainCommand}
use Rattle.otel_trace_lines.specs.declared.reply.Answer.{Answer}
use Rattle.otel_trace_lines.specs.declared.reply.Answer.TheVariants as answers
use Rattle.otel_trace_session.specs.Actions.{PlainAction, PlainCall, PlainOrigin, action_of, is_shutdown, at_root, under, from_header, call_flush, call_run, call_shutdown}
use Rattle.otel_trace_session.specs.Actions.{start_span, edit_span, inject_span, end_span, call_provider, link_span, forget_span}
use Rattle.otel_trace_session.specs.Calls.{Calls}
use Rattle.otel_trace_session.specs.Headers.{child_cx}
use Rattle.otel_trace_session.specs.OpenSpans.{Histories}
use Rattle.otel_trace_session.specs.SpanTurns.{ChildTurn, EndTurn, Start, StartsAfter, StartsFrom, start_in}
use Rattle.otel_trace_session.specs.ProviderTurns.{AsksProvider, CallGives}
use Rattle.otel_trace_session.specs.Turn.{AsksNobody, Course, Turn}
use Rattle.otel_trace_session.specs.Turns.{AreTurns, TakesAction, delivered_in}
use Rattle.otel_trace_session.proofs.TakingLemmas.{replied_follows, replied_hears, replied_shut}
use Rattle.otel_trace_session.proofs.TraceLemmas.{one_stays}

-- an end at a shut provider delivers nothing
end_delivers_none : (is_shut : Bool) (span : PlainSpanData) (refused : ℕ) → is_shut ≡ true → end_delivers is_shut span refused ≡ []
end_delivers_none true span refused e = refl
end_delivers_none false span refused e = cc

module _ {P S G : Type 0} (calls : Calls P S G) where
  -- each processor stays as open or shut over a turn as it was
  abbrev StaysIn : Turn P S G → Type 0
  StaysIn turn = EachStays calls.processor turn.before.provider.processors turn.after.provider.processors

  told_stays : (turn : Turn P S G) → map calls.processor.told turn.after.provider.processors ≡ map calls.processor.told turn.before.provider.processors → StaysIn turn
  told_stays turn e = stays_same calls.processor turn.before.provider.processors turn.after.provider.processors e

  nobody_closes_none : (said : Answer) (histories : Histories) (turn : Turn P S G) → AsksNobody said histories turn → StaysIn turn
  nobody_closes_none said histories turn h = told_stays turn (ap (λ (c : Course P S G). map calls.processor.told c.provider.processors) h.rest)

  start_closes_none : (found : Option SpanHistory) (asked : Start) (turn : Turn P S G) → StartsAfter calls found asked turn → StaysIn turn
  start_closes_none (Some history) asked turn h = nobody_closes_none answers.SpanExists turn.before.histories turn h
  start_closes_none None asked turn h = told_stays turn h.told

  child_closes_none : (found : Option SpanHistory) (asked : Start) (turn : Turn P S G) → ChildTurn calls asked found turn → StaysIn turn
  child_closes_none None asked turn h = nobody_closes_none answers.NoSuchSpan turn.before.histories turn h
  child_closes_none (Some parent) asked turn h = start_closes_none (turn.before.histories asked.span) (record asked { cx = child_cx (span_of parent).span_context }) turn h

  delivery_closes_none : (is_shut : Bool) (span : PlainSpanData) (ps qs : List P) (refused : ℕ) → Delivers calls.processor is_shut span ps qs refused → EachStays calls.processor ps qs
  delivery_closes_none true span ps qs refused h = stays_same calls.processor ps qs (ap (map calls.processor.told) h.0)
  delivery_closes_none false span ps qs refused h = stays_asked calls.processor (TakesAndTells calls.processor span) (λ p r q takes. takes.told.is_open) ps qs refused h

  end_closes_none : (found : Option SpanHistory) (span : List ℕ) (moment : ℕ) (turn : Turn P S G) → EndTurn calls.processor span moment found turn → StaysIn turn
  end_closes_none None span moment turn h = nobody_closes_none answers.NoSuchSpan turn.before.histories turn h
  end_closes_none (Some (over context limits)) span moment turn h = nobody_closes_none answers.Ignored turn.before.histories turn h
  end_closes_none (Some (begun from edits)) span moment turn h = delivery_closes_none turn.before.provider.is_shut _ turn.before.provider.processors turn.after.provider.processors h.refused h.delivered

  origin_closes_none : (scope : PlainScope) (origin : PlainOrigin) (span : List ℕ) (builder : PlainSpanBuilder) (moment : ℕ) (turn : Turn P S G) → StartsFrom calls scope origin span builder moment turn → StaysIn turn
  origin_closes_none scope at_root span builder moment turn h = start_closes_none (turn.before.histories span) (start_in scope root_cx span builder moment) turn h
  origin_closes_none scope (under parent) span builder moment turn h = child_closes_none (turn.before.histories parent) (start_in scope root_cx span builder moment) turn h
  origin_closes_none scope (from_header header) span builder moment turn h = start_closes_none (turn.before.histories span) (start_in scope h.cx span builder moment) turn h.starts

  call_closes_none : (call : PlainCall) (turn : Turn P S G) → is_shutdown (call_provider call) ≡ false → AsksProvider (CallGives calls call) turn → StaysIn turn
  call_closes_none call_flush turn e h =
      stays_asked calls.processor (FlushesProcessor calls.processor) (λ p r q flushes. flushes.is_open) turn.before.provider.processors turn.after.provider.processors (error_count h.gives.asked.0) (h.gives.asked.0, refl, h.gives.asked.2)
  call_closes_none (call_run moment) turn e h =
      stays_asked calls.processor (RunsProcessor calls.processor calls.timer moment) (λ p r q runs. runs.is_open) turn.before.provider.processors turn.after.provider.processors h.gives.failed h.gives.asked
  call_closes_none call_shutdown turn e h = cc

  -- over any action but a shutdown
  one_closes_none : (scope : PlainScope) (action : PlainAction) (turn : Turn P S G) → is_shutdown action ≡ false → TakesAction calls scope action turn → StaysIn turn
  one_closes_none scope (start_span origin span builder moment) turn e h = origin_closes_none scope origin span builder moment turn h
  one_closes_none scope (edit_span span edit) turn e h = nobody_closes_none _ _ turn h
  one_closes_none scope (link_span span target) turn e h = nobody_closes_none _ _ turn h
  one_closes_none scope (forget_span span) turn e h = nobody_closes_none _ _ turn h
  one_closes_none scope (inject_span span) turn e h = told_stays turn (ap (λ (c : Course P S G). map calls.processor.told c.provider.processors) h.rest)
  one_closes_none scope (end_span span moment) turn e h = end_closes_none (turn.before.histories span) span moment turn h
  one_closes_none scope (call_provider call) turn e h = call_closes_none call turn e h

  -- a start delivers nothing
  start_delivers_none : (found : Option SpanHistory) (asked : Start) (turn : Turn P S G) → StartsAfter calls found asked turn → turn.delivered ≡ []
  start_delivers_none (Some history) asked turn h = h.delivers
  start_delivers_none None asked turn h = h.delivers

  child_delivers_none : (found : Option SpanHistory) (asked : Start) (turn : Turn P S G) → ChildTurn calls asked found turn → turn.delivered ≡ []
  child_delivers_none None asked turn h = h.delivers
  child_delivers_none (Some parent) asked turn h = start_delivers_none (turn.before.histories asked.span) (record asked { cx = child_cx (span_of parent).span_context }) turn h

  shut_end_delivers_none : (found : Option SpanHistory) (span : List ℕ) (moment : ℕ) (turn : Turn P S G) → turn.before.provider.is_shut ≡ true → EndTurn calls.processor span moment found turn → turn.delivered ≡ []
  shut_end_delivers_none None span moment turn shut h = h.delivers
  shut_end_delivers_none (Some (over context limits)) span moment turn shut h = h.delivers
  shut_end_delivers_none (Some (begun from edits)) span moment turn shut h = h.delivers ∙ end_delivers_none turn.before.provider.is_shut _ h.refused shut

  origin_delivers_none : (scope : PlainScope) (origin : PlainOrigin) (span : List ℕ) (builder : PlainSpanBuilder) (moment : ℕ) (turn : Turn P S G) → StartsFrom calls scope origin span builder moment turn → turn.delivered ≡ []
  origin_delivers_none scope at_root span builder moment turn h = start_delivers_none (turn.before.histories span) (start_in scope root_cx span builder moment) turn h
  origin_delivers_none scope (under parent) span builder moment turn h = child_delivers_none (turn.before.histories parent) (start_in scope root_cx span builder moment) turn h
  origin_delivers_none scope (from_header header) span builder moment turn h = start_delivers_none (turn.before.histories span) (start_in scope h.cx span builder moment) turn h.starts

  -- at a shut provider no action delivers anything
  shut_delivers_none : (scope : PlainScope) (action : PlainAction) (turn : Turn P S G) → turn.before.provider.is_shut ≡ true → TakesAction calls scope action turn → turn.delivered ≡ []
  shut_delivers_none scope (start_span origin span builder moment) turn shut h = origin_delivers_none scope origin span builder moment turn h
  shut_delivers_none scope (edit_span span edit) turn shut h = h.delivers
  shut_delivers_none scope (link_span span target) turn shut h = h.delivers
  shut_delivers_none scope (forget_span span) turn shut h = h.delivers
  shut_delivers_none scope (inject_span span) turn shut h = h.delivers
  shut_delivers_none scope (end_span span moment) turn shut h = shut_end_delivers_none (turn.before.histories span) span moment turn shut h
  shut_delivers_none scope (call_provider call) turn shut h = h.delivers

  shut_by : (again : Result (Unit {0}) OTelSdkError) (is_shut : Bool) (old new : ProviderState P S G) (said : Result (Unit {0}) OTelSdkError)
      → old.is_shut ≡ is_shut → MatchBool is_shut ((said ≡ again) × (new ≡ old)) (ShutsDown calls.processor old 5_000_000_000 said new) → new.is_shut ≡ true
  shut_by again true old new said e h = ap (λ (p : ProviderState P S G). p.is_shut) h.1 ∙ e
  shut_by again false old new said e h = ap (λ (p : ProviderState P S G). p.is_shut) h.rest

  -- after a shutdown the provider is shut
  call_shuts : (call : PlainCall) (turn : Turn P S G) → is_shutdown (call_provider call) ≡ true → AsksProvider (CallGives calls call) turn → turn.after.provider.is_shut ≡ true
  call_shuts call_flush turn e h = cc
  call_shuts (call_run moment) turn e h = cc
  call_shuts call_shutdown turn e h = shut_by (shut_answer turn.before.provider.is_disabled turn.before.provider.processors) turn.before.provider.is_shut turn.before.provider turn.after.provider h.said refl h.gives

  shutdown_shuts : (scope : PlainScope) (action : PlainAction) (turn : Turn P S G) → is_shutdown action ≡ true → TakesAction calls scope action turn → (turn.after.provider.is_shut ≡ true) × (turn.delivered ≡ [])
  shutdown_shuts scope (start_span origin span builder moment) turn e h = cc
  shutdown_shuts scope (edit_span span edit) turn e h = cc
  shutdown_shuts scope (link_span span target) turn e h = cc
  shutdown_shuts scope (forget_span span) turn e h = cc
  shutdown_shuts scope (inject_span span) turn e h = cc
  shutdown_shuts scope (end_span span moment) turn e h = cc
  shutdown_shuts scope (call_provider call) turn e h = (call_shuts call turn e h, h.delivers)

  -- a shut provider stays shut over any action
  stays_shut : (b : Bool) (scope : PlainScope) (action : PlainAction) (turn : Turn P S G) → is_shutdown action ≡ b → turn.before.provider.is_shut ≡ true → TakesAction calls scope action turn → turn.after.provider.is_shut ≡ true
  stays_shut true scope action turn e shut h = (shutdown_shuts scope action turn e h).0
  stays_shut false scope action turn e shut h = (one_stays calls scope action turn e h).0 ∙ shut

  -- each processor follows all that is delivered
  pub all_follow : (scope : PlainScope) (old new : Course P S G) (commands : List PlainCommand) (turns : List (Turn P S G)) → AreTurns calls scope old commands turns new
      → EachFollows calls.processor (delivered_in turns) old.provider.processors new.provider.processors
  all_follow scope old new [] [] h = EachFollows-same calls.processor old.provider.processors new.provider.processors (ap (λ (c : Course P S G). map calls.processor.told c.provider.processors) h)
  all_follow scope old new [] (turn ∷ turns) h = absurd h
  all_follow scope old new (command ∷ commands) [] h = absurd h
  all_follow scope old new (command ∷ commands) (turn ∷ turns) h =
      subst (λ (c : Course P S G). EachFollows calls.processor (delivered_in (turn ∷ turns)) c.provider.processors new.provider.processors) h.0
      (EachFollows-append calls.processor turn.delivered (delivered_in turns) turn.before.provider.processors turn.after.provider.processors new.provider.processors h.1.follows
      (replied_follows calls turn.after h.3.0 h.3.1 (delivered_in turns) new.provider.processors (all_follow scope h.3.0 new commands turns h.3.2)))

  -- nothing is delivered from a shut provider on
  none_after : (scope : PlainScope) (old new : Course P S G) (commands : List PlainCommand) (turns : List (Turn P S G)) → old.provider.is_shut ≡ true → AreTurns calls scope old commands turns new → delivered_in turns ≡ []
  none_after scope old new [] [] shut h = refl
  none_after scope old new [] (turn ∷ turns) shut h = absurd h
  none_after scope old new (command ∷ commands) [] shut h = absurd h
  none_after scope old new (command ∷ commands) (turn ∷ turns) shut h =
      let is_shut = ap (λ (c : Course P S G). c.provider.is_shut) h.0 ∙ shut in
      let first : turn.delivered ≡ [] = shut_delivers_none scope (action_of command) turn is_shut h.1.is_turn in
      let still = stays_shut (is_shutdown (action_of command)) scope (action_of command) turn refl is_shut h.1.is_turn in
      ap (λ (l : List Delivery). l ++ delivered_in turns) first ∙ none_after scope h.3.0 new commands turns (replied_shut calls turn.after h.3.0 h.3.1 ∙ still) h.3.2

  -- each processor that was open hears all that is delivered
  pub all_heard : (scope : PlainScope) (old new : Course P S G) (commands : List PlainCommand) (turns : List (Turn P S G)) → AreTurns calls scope old commands turns new
      → EachOpenHears calls.processor (delivered_in turns) old.provider.processors new.provider.processors
  all_heard scope old new [] [] h = hears_no_delivery calls.processor old.provider.processors new.provider.processors (all_follow scope old new [] [] h)
  all_heard scope old new [] (turn ∷ turns) h = absurd h
  all_heard scope old new (command ∷ commands) [] h = absurd h
  all_heard scope old new (command ∷ commands) (turn ∷ turns) h =
      subst (λ (c : Course P S G). EachOpenHears calls.processor (delivered_in (turn ∷ turns)) c.provider.processors new.provider.processors) h.0
      (by (is_shutdown (action_of command)) refl (replied_hears calls turn.after h.3.0 h.3.1 (delivered_in turns) new.provider.processors (all_heard scope h.3.0 new commands turns h.3.2)))
    where
      by : (b : Bool) → is_shutdown (action_of command) ≡ b → EachOpenHears calls.processor (delivered_in turns) turn.after.provider.processors new.provider.processors
          → EachOpenHears calls.processor (turn.delivered ++ delivered_in turns) turn.before.provider.processors new.provider.processors
      by false e rest =
          let stays = one_closes_none scope (action_of command) turn e h.1.is_turn in
          let first = hears_first calls.processor turn.delivered turn.before.provider.processors turn.after.provider.processors h.1.follows stays in
          hears_on calls.processor turn.delivered (delivered_in turns) turn.before.provider.processors turn.after.provider.processors new.provider.processors first stays rest
      by true e _ =
          let shut = shutdown_shuts scope (action_of command) turn e h.1.is_turn in
          let none : turn.delivered ++ delivered_in turns ≡ [] = ap (λ (l : List Delivery). l ++ delivered_in turns) shut.1 ∙ none_after scope h.3.0 new commands turns (replied_shut calls turn.after h.3.0 h.3.1 ∙ shut.0) h.3.2 in
          let follows = subst (λ (c : Course P S G). EachFollows calls.processor (delivered_in (turn ∷ turns)) c.provider.processors new.provider.processors) (sym h.0) (all_follow scope old new (command ∷ commands) (turn ∷ turns) h) in
          let nothing = subst (λ (l : List Delivery). EachFollows calls.processor l turn.before.provider.processors new.provider.processors) none follows in
          subst (λ (l : List Delivery). EachOpenHears calls.processor l turn.before.provider.processors new.provider.processors) (sym none) (hears_no_delivery calls.processor turn.before.provider.processors new.provider.processors nothing)
