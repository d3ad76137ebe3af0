-- After a flush or a shutdown that is answered by Ok no span waits.
use Rattle.std.proofs.Common.{◌≡◌, ℕ, Bool, true, false, List, [], ◌∷◌, ◌++◌, Result, Ok, Err, MatchBool, OnOk, length, length-append, map, refl, ap, subst, sym, ◌∙◌, arith, rules}
use Rattle.std.proofs.lemmas.List.{same_from_push}
use Rattle.std.proofs.lemmas.List.Elements.{All-cons, All-nil}
use Rattle.opentelemetry.specs.Plain.{PlainScope}
use Rattle.otel_export.specs.declared.error.OTelSdkError.{OTelSdkError}
use Rattle.otel_export.specs.declared.error.OTelSdkError.TheVariants as errors
use Rattle.otel_pipeline.specs.Each.{Each, error_count, first_failure}
use Rattle.otel_pipeline.specs.Provider.{Flushes, FlushesProcessor, ProviderState, ShutsDown, ShutsProcessor, shut_answer}
use Rattle.otel_pipeline.specs.declared.trace.span_processor.SpanProcessor.{Ghosts}
use Rattle.otel_trace_lines.specs.Commands.{PlainCommand}
use Rattle.otel_trace_lines.specs.PlainReply.{PlainReply}
use Rattle.otel_trace_lines.specs.declared.reply.Answer.TheVariants as answers
use Rattle.otel_trace_session.specs.Actions.{PlainAction, PlainCall, action_of, call_flush, call_run, call_shutdown, start_span, edit_span, inject_span, end_span, call_provider, link_span, forget_span}
use Rattle.otel_trace_session.specs.Calls.{Calls}
use Rattle.otel_trace_session.specs.ProviderTurns.{AsksProvider, CallGives, EmptiesIfOk, call_answer}
use Rattle.otel_trace_session.specs.Shown.{EmptiedAfter}
use Rattle.otel_trace_session.specs.Turn.{Course, Turn}
use Rattle.otel_trace_session.specs.Turns.{AreTurns, TakesAction, reply_of}
use Rattle.otel_trace_session.proofs.TakingLemmas.{NoneWaits, replied_empty}

-- no answer is an error where there is no first one
none_failed : {E : Type 0} (rs : List (Result (Unit {0}) E)) → first_failure rs ≡ Ok tt → error_count rs ≡ 0
none_failed [] h = refl
none_failed (Ok _ ∷ rs) h = none_failed rs h
none_failed (Err _ ∷ rs) h = cc

module _ {P : Type 0} (calls : Ghosts P) where
  -- each was asked and none failed
  asked_empties : (G : P → Result (Unit {0}) OTelSdkError → P → Type 0) → ((p : P) (r : Result (Unit {0}) OTelSdkError) (q : P) → G p r q → OnOk r ((calls.told q).waiting ≡ 0))
      → (ps qs : List P) (rs : List (Result (Unit {0}) OTelSdkError)) → Each G ps rs qs → error_count rs ≡ 0 → NoneWaits calls qs
  asked_empties G empty [] [] [] h none = All-nil (λ p. (calls.told p).waiting ≡ 0)
  asked_empties G empty [] (q ∷ qs) [] h none = absurd h
  asked_empties G empty [] qs (r ∷ rs) h none = absurd h
  asked_empties G empty (p ∷ ps) qs [] h none = absurd h
  asked_empties G empty (p ∷ ps) [] (r ∷ rs) h none = absurd h
  asked_empties G empty (p ∷ ps) (q ∷ qs) (Ok r ∷ rs) h none = All-cons (λ x. (calls.told x).waiting ≡ 0) q qs (empty p (Ok r) q h.0) (asked_empties G empty ps qs rs h.1 none)
  asked_empties G empty (p ∷ ps) (q ∷ qs) (Err e ∷ rs) h none = absurd (omega arith)

  flush_leaves_none : {S G : Type 0} (old new : ProviderState P S G) (said : Result (Unit {0}) OTelSdkError) → Flushes calls old said new → call_answer said ≡ answers.Ok → NoneWaits calls new.processors
  flush_leaves_none old new (Ok _) h e = asked_empties (FlushesProcessor calls) (λ p r q asked. asked.emptied) old.processors new.processors h.asked.0 h.asked.2 (none_failed h.asked.0 h.asked.1)
  flush_leaves_none old new (Err _) h e = cc

  first_shutdown_leaves_none : {S G : Type 0} (old new : ProviderState P S G) (timeout : ℕ) (said : Result (Unit {0}) OTelSdkError) → ShutsDown calls old timeout said new → call_answer said ≡ answers.Ok → NoneWaits calls new.processors
  first_shutdown_leaves_none old new timeout (Ok _) h e = asked_empties (ShutsProcessor calls timeout) (λ p r q asked. asked.emptied) old.processors new.processors h.asked.0 h.asked.2 (h.asked.1 ∙ h.ok.0 refl)
  first_shutdown_leaves_none old new timeout (Err _) h e = cc

module _ {P S G : Type 0} (calls : Calls P S G) where
  shutdown_leaves_none : (b : Bool) (old new : ProviderState P S G) (said : Result (Unit {0}) OTelSdkError) → MatchBool b ((said ≡ shut_answer old.is_disabled old.processors) × (new ≡ old)) (ShutsDown calls.processor old 5_000_000_000 said new)
      → call_answer said ≡ answers.Ok → NoneWaits calls.processor new.processors
  shutdown_leaves_none true old new said h e =
      subst (λ (p : ProviderState P S G). NoneWaits calls.processor p.processors) (sym h.1) (none_again old.is_disabled old.processors h.0)
    where
      failed_again : (said : Result (Unit {0}) OTelSdkError) → said ≡ Err errors.AlreadyShutdown → call_answer said ≡ answers.Ok → ⊥
      failed_again (Ok _) h e = cc
      failed_again (Err _) h e = cc

      none_again : (is_disabled : Bool) (ps : List P) → said ≡ shut_answer is_disabled ps → NoneWaits calls.processor ps
      none_again true [] h = λ k d within. absurd (omega (arith, within))
      none_again true (p ∷ ps) h = absurd (failed_again said h e)
      none_again false ps h = absurd (failed_again said h e)
  shutdown_leaves_none false old new said h e = first_shutdown_leaves_none calls.processor old new 5_000_000_000 said h e

  -- after one command
  call_empties : (call : PlainCall) (turn : Turn P S G) → AsksProvider (CallGives calls call) turn → EmptiesIfOk calls.processor (call_provider call) turn.answer turn.after.provider.processors
  call_empties call_flush turn h is e = flush_leaves_none calls.processor turn.before.provider turn.after.provider h.said h.gives (sym h.says ∙ e)
  call_empties (call_run moment) turn h is e = absurd (search (rules, is))
  call_empties call_shutdown turn h is e = shutdown_leaves_none turn.before.provider.is_shut turn.before.provider turn.after.provider h.said h.gives (sym h.says ∙ e)

  one_empties : (scope : PlainScope) (action : PlainAction) (turn : Turn P S G) → TakesAction calls scope action turn → EmptiesIfOk calls.processor action turn.answer turn.after.provider.processors
  one_empties scope (start_span origin span builder moment) turn h is e = absurd (search (rules, is))
  one_empties scope (edit_span span edit) turn h is e = absurd (search (rules, is))
  one_empties scope (link_span span target) turn h is e = absurd (search (rules, is))
  one_empties scope (forget_span span) turn h is e = absurd (search (rules, is))
  one_empties scope (inject_span span) turn h is e = absurd (search (rules, is))
  one_empties scope (end_span span moment) turn h is e = absurd (search (rules, is))
  one_empties scope (call_provider call) turn h is e = call_empties call turn h is e

  -- after all, by the last of them
  all_empty : (scope : PlainScope) (old new : Course P S G) (commands : List PlainCommand) (turns : List (Turn P S G)) (before : List PlainCommand) (last : PlainCommand) (others : List PlainReply) (reply : PlainReply)
      → AreTurns calls scope old commands turns new → commands ≡ before ++ last ∷ [] → map (reply_of calls) turns ≡ others ++ reply ∷ [] → EmptiesIfOk calls.processor (action_of last) reply.answer new.provider.processors
  all_empty scope old new [] turns before last others reply h e f = absurd (omega (arith, ap length e, length-append before (last ∷ [])))
  all_empty scope old new (command ∷ commands) [] before last others reply h e f = absurd h
  all_empty scope old new (command ∷ []) (turn ∷ []) before last others reply h e f =
      subst (λ (c : PlainCommand). EmptiesIfOk calls.processor (action_of c) reply.answer new.provider.processors) (same_from_push [] before command last e).1
      (subst (λ (r : PlainReply). EmptiesIfOk calls.processor (action_of command) r.answer new.provider.processors) (same_from_push [] others (reply_of calls turn) reply f).1
      (subst (λ (c : Course P S G). EmptiesIfOk calls.processor (action_of command) turn.answer c.provider.processors) (sym h.3.2)
      (λ is said. replied_empty calls turn.after h.3.0 h.3.1 (one_empties scope (action_of command) turn h.1.is_turn is said))))
  all_empty scope old new (command ∷ []) (turn ∷ next ∷ turns) before last others reply h e f = absurd h.3.2
  all_empty scope old new (command ∷ following ∷ commands) (turn ∷ []) before last others reply h e f = absurd h.3.2
  all_empty scope old new (command ∷ following ∷ commands) (turn ∷ next ∷ turns) [] last others reply h e f = absurd (omega (arith, ap length e))
  all_empty scope old new (command ∷ following ∷ commands) (turn ∷ next ∷ turns) (first ∷ before) last [] reply h e f = absurd (omega (arith, ap length f))
  all_empty scope old new (command ∷ following ∷ commands) (turn ∷ next ∷ turns) (first ∷ before) last (other ∷ others) reply h e f =
      let commands_after : following ∷ commands ≡ before ++ last ∷ [] = cc in
      let replies_after : map (reply_of calls) (next ∷ turns) ≡ others ++ reply ∷ [] = cc in
      all_empty scope h.3.0 new (following ∷ commands) (next ∷ turns) before last others reply h.3.2 commands_after replies_after

  pub all_emptied : (scope : PlainScope) (old new : Course P S G) (commands : List PlainCommand) (turns : List (Turn P S G)) (replies : List PlainReply) → replies ≡ map (reply_of calls) turns → AreTurns calls scope old commands turns new
      → EmptiedAfter calls.processor commands replies new.provider.processors
  all_emptied scope old new commands turns replies told h before last others reply e f = all_empty scope old new commands turns before last others reply h e (sym told ∙ f)
