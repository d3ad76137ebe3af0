-- The replies of turns show the batches that are taken meanwhile, in order and each once.
use Rattle.std.proofs.Common.{◌≡◌, ◌⊎◌, List, [], ◌∷◌, ◌++◌, map, refl, sym, ◌∙◌, ap, subst, inl, inr, Ok, append_assoc, append-nil}
use Rattle.opentelemetry.specs.Plain.{PlainScope}
use Rattle.otel_export.specs.KeptBatches.{Grows, OnlyAdds, grows_more}
use Rattle.otel_export.specs.PlainSpanData.{PlainSpanData}
use Rattle.otel_export.specs.StoredBatches.{StoredBatches, all_taken}
use Rattle.otel_pipeline.specs.ProcessorKeeps.{OnlyAppends}
use Rattle.otel_trace_lines.specs.Commands.{PlainCommand}
use Rattle.otel_trace_lines.specs.PlainReply.{PlainReply}
use Rattle.otel_trace_session.specs.Calls.{Calls, stored_of_first}
use Rattle.otel_trace_session.specs.Laws.{ClosesShowRest}
use Rattle.otel_trace_session.specs.OpenSpans.{Histories}
use Rattle.otel_trace_session.specs.Shown.{Shows, all_stored, exported_in}
use Rattle.otel_trace_session.specs.Turn.{Course, Turn}
use Rattle.otel_trace_session.specs.Turns.{AreTurns, SessionState, course_of, reply_of}
use Rattle.otel_pipeline.proofs.FirstKeeps.{shutdown_grows}
use Rattle.otel_trace_session.proofs.TakingLemmas.{kept_taken}

abbrev Batches : Type 0
Batches = List (List PlainSpanData)

-- all that is stored grows where batches are only added, and where they are taken
adds_grow : (old new : StoredBatches) → OnlyAdds old new → Grows (all_stored old) (all_stored new)
adds_grow old new h = (
  h.1.0,
  ap (λ (l : Batches). l ++ new.batches) h.0 ∙ ap (λ (l : Batches). old.taken ++ l) h.1.1 ∙ sym (append_assoc old.taken old.batches h.1.0),
)

takes_grow : (old new : StoredBatches) → new ≡ all_taken old → Grows (all_stored old) (all_stored new)
takes_grow old new e = ([], ap all_stored e)

module _ {P S G : Type 0} (calls : Calls P S G) where
  abbrev stored : Course P S G → StoredBatches
  stored course = stored_of_first calls.keeps course.provider.processors

  -- from a course to another the replies show the batches that were taken, in order and each once
  record ShowsTo (old : Course P S G) (replies : List PlainReply) (new : Course P S G) : Type 0 where
    grows : Grows (all_stored (stored old)) (all_stored (stored new))
    shown : (stored new).taken ≡ (stored old).taken ++ exported_in replies

  shows_none : (course : Course P S G) → ShowsTo course [] course
  shows_none course = record { grows = ([], sym (append-nil (all_stored (stored course)))); shown = sym (append-nil (stored course).taken) }

  shows_more : (turn : Turn P S G) (next : Course P S G) (replies : List PlainReply) (new : Course P S G) → OnlyAdds (stored turn.before) (stored turn.after) → stored next ≡ all_taken (stored turn.after)
      → ShowsTo next replies new → ShowsTo turn.before (reply_of calls turn ∷ replies) new
  shows_more turn next replies new adds taken h = record {
    grows = grows_more (all_stored (stored turn.before)) (all_stored (stored next)) (all_stored (stored new))
        (grows_more (all_stored (stored turn.before)) (all_stored (stored turn.after)) (all_stored (stored next))
        (adds_grow (stored turn.before) (stored turn.after) adds) (takes_grow (stored turn.after) (stored next) taken)) h.grows;
    shown = h.shown
        ∙ ap (λ (s : StoredBatches). s.taken ++ exported_in replies) taken
        ∙ ap (λ (l : Batches). (l ++ (stored turn.after).batches) ++ exported_in replies) adds.0
        ∙ append_assoc (stored turn.before).taken (stored turn.after).batches (exported_in replies);
  }

  all_show : (scope : PlainScope) (old new : Course P S G) (commands : List PlainCommand) (turns : List (Turn P S G)) → AreTurns calls scope old commands turns new → ShowsTo old (map (reply_of calls) turns) new
  all_show scope old new [] [] h = subst (λ (c : Course P S G). ShowsTo old [] c) (sym h) (shows_none old)
  all_show scope old new [] (turn ∷ turns) h = absurd h
  all_show scope old new (command ∷ commands) [] h = absurd h
  all_show scope old new (command ∷ commands) (turn ∷ turns) h = subst (λ (c : Course P S G). ShowsTo c (map (reply_of calls) (turn ∷ turns)) new) h.0
      (shows_more turn h.3.0 (map (reply_of calls) turns) new h.1.adds (kept_taken calls turn.after.provider h.3.0.provider h.3.1.takes) (all_show scope h.3.0 new commands turns h.3.2))

  -- after a reply none is kept
  none_after : (scope : PlainScope) (old new : Course P S G) (commands : List PlainCommand) (turns : List (Turn P S G)) → (stored old).batches ≡ [] → AreTurns calls scope old commands turns new → (stored new).batches ≡ []
  none_after scope old new [] [] none h = ap (λ (c : Course P S G). (stored c).batches) h ∙ none
  none_after scope old new [] (turn ∷ turns) none h = absurd h
  none_after scope old new (command ∷ commands) [] none h = absurd h
  none_after scope old new (command ∷ commands) (turn ∷ turns) none h = none_after scope h.3.0 new commands turns
      (ap (λ (s : StoredBatches). s.batches) (kept_taken calls turn.after.provider h.3.0.provider h.3.1.takes)) h.3.2

  none_left : (scope : PlainScope) (old new : Course P S G) (commands : List PlainCommand) (turns : List (Turn P S G)) → AreTurns calls scope old commands turns new → (map (reply_of calls) turns ≡ []) ⊎ ((stored new).batches ≡ [])
  none_left scope old new commands [] h = inl refl
  none_left scope old new [] (turn ∷ turns) h = absurd h
  none_left scope old new (command ∷ commands) (turn ∷ turns) h =
      inr (none_after scope h.3.0 new commands turns
      (ap (λ (s : StoredBatches). s.batches) (kept_taken calls turn.after.provider h.3.0.provider h.3.1.takes)) h.3.2)

  pub all_shown : (old new : SessionState P S G) (histories after : Histories) (commands : List PlainCommand) (turns : List (Turn P S G)) (replies : List PlainReply) → replies ≡ map (reply_of calls) turns
      → AreTurns calls old.scope (course_of old histories) commands turns (course_of new after) → Shows calls.keeps old replies new
  all_shown old new histories after commands turns replies told h = subst (λ (rs : List PlainReply). Shows calls.keeps old rs new) (sym told)
      (let shows = all_show old.scope (course_of old histories) (course_of new after) commands turns h in record {
        grows = shows.grows;
        shown = shows.shown;
        none_left = none_left old.scope (course_of old histories) (course_of new after) commands turns h;
      })

module _ {P S G : Type 0} (calls : Calls P S G) (law : OnlyAppends calls.processor calls.timer calls.keeps.stored) where
  -- what replies have shown, and what is left once the provider is shut down
  pub closes_rest : ClosesShowRest calls
  closes_rest old new closed histories commands replies said took shuts =
      let shows = all_shown calls old new histories took.after commands took.turns replies took.replied_to took.are_turns in
      let adds = shutdown_grows calls law (Ok tt) new.provider.is_shut new.provider closed said shuts in
      let kept = (stored_of_first calls.keeps closed.processors).batches in
      let taken = (stored_of_first calls.keeps old.provider.processors).taken in
      ap (λ (l : Batches). l ++ kept) (adds.0 ∙ shows.shown) ∙ append_assoc taken (exported_in replies) kept
