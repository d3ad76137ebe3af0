-- Each child that commands started agrees with its parent, as the session then stands, and so do theirs.
use Rattle.std.proofs.Common.{◌≡◌, ℕ, Bool, true, false, not, if◌then◌else◌, ◌||◌, ◌&&◌, List, [], ◌∷◌, Option, Some, None, MatchBool, map, ◌⊎◌, inl, inr, refl, sym, ◌∙◌, ap, subst}
use Rattle.std.proofs.lemmas.Option.{same_Some}
use Rattle.std.specs.Option.{option_map}
use Rattle.opentelemetry.specs.Plain.{PlainScope, PlainSpanContext}
use Rattle.opentelemetry.specs.PlainContexts.{root_cx}
use Rattle.opentelemetry.specs.PlainSpanBuilder.{PlainSpanBuilder}
use Rattle.otel_sampling.specs.Agreement.{Agrees}
use Rattle.otel_pipeline.specs.Hops.{GoesByParents}
use Rattle.otel_pipeline.specs.Provider.{unstarted_context, ProviderState}
use Rattle.otel_pipeline.specs.SpanHistory.{PlainSpan, SpanHistory, begun, over, span_of}
use Rattle.otel_pipeline.specs.StartRequest.{StartRequest}
use Rattle.otel_pipeline.specs.Starting.{StartsOpen}
use Rattle.otel_pipeline.proofs.AgreementLemmas.{child_agrees, child_under}
use Rattle.otel_trace_lines.specs.Commands.{PlainCommand}
use Rattle.otel_trace_lines.specs.PlainReply.{PlainReply}
use Rattle.otel_trace_lines.specs.declared.reply.Answer.{Answer}
use Rattle.otel_trace_lines.specs.declared.reply.Answer.TheVariants as answers
use Rattle.otel_trace_session.specs.Actions.{PlainAction, PlainCall, PlainOrigin, action_of, is_shutdown, at_root, under, from_header, call_flush, call_run, call_shutdown}
use Rattle.otel_trace_session.specs.Actions.{start_span, edit_span, inject_span, end_span, call_provider, link_span, forget_span}
use Rattle.otel_trace_session.specs.Calls.{Calls}
use Rattle.otel_trace_session.specs.Headers.{child_cx}
use Rattle.otel_trace_session.specs.OpenSpans.{Describe, Histories, NamedSpans, is_name}
use Rattle.otel_trace_session.specs.SpanTurns.{ChildTurn, EndTurn, ForgetTurn, Start, StartsAfter, StartsFrom, request_of, start_in}
use Rattle.otel_trace_session.specs.ProviderTurns.{AsksProvider, CallGives}
use Rattle.otel_trace_session.specs.Traces.{ChildrenAgree, NoneForgotten, forgets, is_forgotten, made_span, with_child, with_children}
use Rattle.otel_trace_session.specs.Turn.{AsksNobody, Course, Turn}
use Rattle.otel_trace_session.specs.Turns.{AreTurns, TakesAction, reply_of}
use Rattle.otel_trace_session.proofs.TakingLemmas.{replied_sampler, replied_shut}
use Rattle.otel_trace_session.proofs.NamedLemmas.{by_history, is_itself, same_name}
use Rattle.otel_trace_session.proofs.PersistLemmas.{PersistsAt, all_persist, context_of, forget_persists, from_next, neither, one_persists, persists_on}

-- a shutdown gives no name up
shutdown_forgets_none : (action : PlainAction) (answer : Answer) (q : List ℕ) → is_shutdown action ≡ true → forgets action answer q ≡ false
shutdown_forgets_none (start_span origin span builder moment) answer q e = refl
shutdown_forgets_none (edit_span span edit) answer q e = refl
shutdown_forgets_none (link_span span target) answer q e = refl
shutdown_forgets_none (inject_span span) answer q e = refl
shutdown_forgets_none (end_span span moment) answer q e = refl
shutdown_forgets_none (call_provider call) answer q e = refl
shutdown_forgets_none (forget_span span) answer q e = cc

-- the first of two without the second
but_not : (a b : Bool) → (a && not b) ≡ true → (a ≡ true) × (b ≡ false)
but_not true true e = cc
but_not true false e = (refl, refl)
but_not false b e = cc

-- what a name has that a history was put under
put_there : (b : Bool) (new : SpanHistory) (found : Option SpanHistory) → b ≡ true → (if b then Some new else found) ≡ Some new
put_there true new found e = refl
put_there false new found e = cc

-- each of these names has a history whose span agrees with a root
abbrev EachAgrees : PlainSpanContext → (List ℕ → Bool) → Histories → Type 0
EachAgrees root is_in histories = (q : List ℕ) → is_in q ≡ true → (h : SpanHistory) × (histories q ≡ Some h) × Agrees root (context_of h)

-- which way a name is of a trace
which : (a b c d : Bool) → (a || (b && (c && d))) ≡ true → (a ≡ true) ⊎ ((b ≡ true) × (c ≡ true) × (d ≡ true))
which true b c d e = inl refl
which false true true true e = inr (refl, refl, refl)
which false true true false e = cc
which false true false d e = cc
which false false c d e = cc

true_is_no : (b : Bool) → b ≡ false → b ≡ true → ⊥
true_is_no true e f = cc
true_is_no false e f = cc

module _ {P S G : Type 0} (calls : Calls P S G) where
  -- the provider stays as open as it was, with its sampler
  abbrev Stays : ProviderState P S G → ProviderState P S G → Type 0
  Stays old new = (new.is_shut ≡ old.is_shut) × (new.sampler ≡ old.sampler)

  stays : (old new made : ProviderState P S G) → new ≡ made → Stays old made → Stays old new
  stays old new made e s = (ap (λ (p : ProviderState P S G). p.is_shut) e ∙ s.0, ap (λ (p : ProviderState P S G). p.sampler) e ∙ s.1)

  nobody_stays : (said : Answer) (histories : Histories) (turn : Turn P S G) → AsksNobody said histories turn → Stays turn.before.provider turn.after.provider
  nobody_stays said histories turn h = stays turn.before.provider turn.after.provider turn.before.provider (ap (λ (c : Course P S G). c.provider) h.rest) (refl, refl)

  open_stays : (b : Bool) (old new : ProviderState P S G) (request : StartRequest) (history : SpanHistory)
      → MatchBool b ((history ≡ over (unstarted_context old request.cx) old.span_limits) × (new ≡ old)) (StartsOpen calls.processor calls.sampler calls.ids old request history new) → Stays old new
  open_stays true old new request history h = stays old new old h.1 (refl, refl)
  open_stays false old new request history h = stays old new (record old { processors = new.processors; id_generator = new.id_generator }) h.rest (refl, refl)

  start_stays : (found : Option SpanHistory) (asked : Start) (turn : Turn P S G) → StartsAfter calls found asked turn → Stays turn.before.provider turn.after.provider
  start_stays (Some history) asked turn h = nobody_stays answers.SpanExists turn.before.histories turn h
  start_stays None asked turn h = open_stays (turn.before.provider.is_shut || asked.cx.telemetry_suppressed) turn.before.provider turn.after.provider (request_of asked) h.history h.starts

  child_stays : (found : Option SpanHistory) (asked : Start) (turn : Turn P S G) → ChildTurn calls asked found turn → Stays turn.before.provider turn.after.provider
  child_stays None asked turn h = nobody_stays answers.NoSuchSpan turn.before.histories turn h
  child_stays (Some parent) asked turn h = start_stays (turn.before.histories asked.span) (record asked { cx = child_cx (span_of parent).span_context }) turn h

  end_stays : (found : Option SpanHistory) (span : List ℕ) (moment : ℕ) (turn : Turn P S G) → EndTurn calls.processor span moment found turn → Stays turn.before.provider turn.after.provider
  end_stays None span moment turn h = nobody_stays answers.NoSuchSpan turn.before.histories turn h
  end_stays (Some (over context limits)) span moment turn h = nobody_stays answers.Ignored turn.before.histories turn h
  end_stays (Some (begun from edits)) span moment turn h = stays turn.before.provider turn.after.provider (record turn.before.provider { processors = turn.after.provider.processors }) h.provider (refl, refl)

  origin_stays : (scope : PlainScope) (origin : PlainOrigin) (span : List ℕ) (builder : PlainSpanBuilder) (moment : ℕ) (turn : Turn P S G) → StartsFrom calls scope origin span builder moment turn → Stays turn.before.provider turn.after.provider
  origin_stays scope at_root span builder moment turn h = start_stays (turn.before.histories span) (start_in scope root_cx span builder moment) turn h
  origin_stays scope (under parent) span builder moment turn h = child_stays (turn.before.histories parent) (start_in scope root_cx span builder moment) turn h
  origin_stays scope (from_header header) span builder moment turn h = start_stays (turn.before.histories span) (start_in scope h.cx span builder moment) turn h.starts

  call_stays : (call : PlainCall) (turn : Turn P S G) → is_shutdown (call_provider call) ≡ false → AsksProvider (CallGives calls call) turn → Stays turn.before.provider turn.after.provider
  call_stays call_flush turn e h = stays turn.before.provider turn.after.provider (record turn.before.provider { processors = turn.after.provider.processors }) h.gives.rest (refl, refl)
  call_stays (call_run moment) turn e h = stays turn.before.provider turn.after.provider (record turn.before.provider { processors = turn.after.provider.processors }) h.gives.rest (refl, refl)
  call_stays call_shutdown turn e h = cc

  -- over any action but a shutdown
  pub one_stays : (scope : PlainScope) (action : PlainAction) (turn : Turn P S G) → is_shutdown action ≡ false → TakesAction calls scope action turn → Stays turn.before.provider turn.after.provider
  one_stays scope (start_span origin span builder moment) turn e h = origin_stays scope origin span builder moment turn h
  one_stays scope (edit_span span edit) turn e h = nobody_stays _ _ turn h
  one_stays scope (link_span span target) turn e h = nobody_stays _ _ turn h
  one_stays scope (forget_span span) turn e h = nobody_stays _ _ turn h
  one_stays scope (inject_span span) turn e h = stays turn.before.provider turn.after.provider turn.before.provider (ap (λ (c : Course P S G). c.provider) h.rest) (refl, refl)
  one_stays scope (end_span span moment) turn e h = end_stays (turn.before.histories span) span moment turn h
  one_stays scope (call_provider call) turn e h = call_stays call turn e h

  -- the first names of a trace, which nobody gives up, and whose spans agree with a root in the end
  module _ (root : PlainSpanContext) (first : List ℕ → Bool) (last : Histories) (agree : EachAgrees root first last) where
    -- a name is one of the first, or the span that it has now agrees
    abbrev IsJoined : Histories → List ℕ → Type 0
    IsJoined histories q = (first q ≡ true) ⊎ ((h : SpanHistory) × (histories q ≡ Some h) × Agrees root (context_of h))

    -- each of these names is so
    abbrev AreJoined : (List ℕ → Bool) → Histories → Type 0
    AreJoined is_in histories = (q : List ℕ) → is_in q ≡ true → IsJoined histories q

    persists_joined : (q : List ℕ) (old new : Histories) → PersistsAt q old new → IsJoined old q → IsJoined new q
    persists_joined q old new persists (inl is) = inl is
    persists_joined q old new persists (inr found) =
        let kept = persists found.0 found.1 in inr (kept.0, kept.1, subst (Agrees root) (sym kept.2) found.2)

    -- in the end a name that is so has a span that agrees
    joined_agrees : (q : List ℕ) → IsJoined last q → (h : SpanHistory) × (last q ≡ Some h) × Agrees root (context_of h)
    joined_agrees q (inl is) = agree q is
    joined_agrees q (inr found) = found

    -- a father that is so agrees, where the first names keep their spans until the end
    father_agrees : (parent : List ℕ) (now : Histories) (father : SpanHistory) → (first parent ≡ true → PersistsAt parent now last) → now parent ≡ Some father → IsJoined now parent → Agrees root (context_of father)
    father_agrees parent now father keeps there (inl is) =
        let kept = keeps is father there in
        let found = agree parent is in
        let same = same_Some found.0 kept.0 (sym found.1 ∙ kept.1) in
        subst (Agrees root) kept.2 (subst (λ (h : SpanHistory). Agrees root (context_of h)) same found.2)
    father_agrees parent now father keeps there (inr found) =
        let same = same_Some found.0 father (sym found.1 ∙ there) in
        subst (λ (h : SpanHistory). Agrees root (context_of h)) same found.2

    -- a child that was started is so
    taken_joins : (found : Option SpanHistory) (scope : PlainScope) (turn : Turn P S G) (span parent q : List ℕ) (builder : PlainSpanBuilder) (moment : ℕ) (father : SpanHistory)
        → GoesByParents calls.sampler turn.before.provider.sampler → turn.before.provider.is_shut ≡ false → Agrees root (context_of father) → is_name q span ≡ true → made_span turn.answer ≡ true
        → StartsAfter calls found (start_in scope (child_cx (span_of father).span_context) span builder moment) turn → IsJoined turn.after.histories q
    taken_joins (Some history) scope turn span parent q builder moment father by_parents is_open agrees name made h =
        absurd (true_is_no (made_span turn.answer) (ap made_span h.says) made)
    taken_joins None scope turn span parent q builder moment father by_parents is_open agrees name made h =
        let cx = child_cx (span_of father).span_context in
        let is_child = child_under calls.processor calls.sampler calls.ids turn.before.provider turn.after.provider (request_of (start_in scope cx span builder moment)) h.history (span_of father).span_context
        (record { is_open = is_open; is_unsuppressed = refl; is_active = refl; starts = h.starts }) (λ question. by_parents question (span_of father).span_context) in
        let put : turn.after.histories span ≡ Some h.history = ap (λ (histories : Histories). histories span) h.histories ∙ put_there (is_name span span) h.history (turn.before.histories span) (is_itself span) in
        inr (h.history, ap turn.after.histories (same_name q span name) ∙ put, child_agrees root (context_of father) (context_of h.history) agrees is_child)

    child_joins : (found : Option SpanHistory) (scope : PlainScope) (turn : Turn P S G) (span parent q : List ℕ) (builder : PlainSpanBuilder) (moment : ℕ)
        → GoesByParents calls.sampler turn.before.provider.sampler → turn.before.provider.is_shut ≡ false → (first parent ≡ true → PersistsAt parent turn.before.histories last) → turn.before.histories parent ≡ found
        → IsJoined turn.before.histories parent → is_name q span ≡ true → made_span turn.answer ≡ true → ChildTurn calls (start_in scope root_cx span builder moment) found turn → IsJoined turn.after.histories q
    child_joins None scope turn span parent q builder moment by_parents is_open keeps e is name made h =
        absurd (true_is_no (made_span turn.answer) (ap made_span h.says) made)
    child_joins (Some father) scope turn span parent q builder moment by_parents is_open keeps e is name made h =
        taken_joins (turn.before.histories span) scope turn span parent q builder moment father by_parents is_open (father_agrees parent turn.before.histories father keeps e is) name made h

    -- over an action that leaves the names of the trace
    stays_joined : (scope : PlainScope) (is_in : List ℕ → Bool) (action : PlainAction) (turn : Turn P S G) → ((q : List ℕ) → forgets action turn.answer q ≡ false) → AreJoined is_in turn.before.histories → TakesAction calls scope action turn
        → AreJoined is_in turn.after.histories
    stays_joined scope is_in action turn none joined h q is = persists_joined q turn.before.histories turn.after.histories (one_persists calls scope action turn q (none q) h) (joined q is)

    -- and over the start of a child
    under_joins : (scope : PlainScope) (is_in : List ℕ → Bool) (parent span : List ℕ) (builder : PlainSpanBuilder) (moment : ℕ) (turn : Turn P S G) (q : List ℕ)
        → GoesByParents calls.sampler turn.before.provider.sampler → turn.before.provider.is_shut ≡ false → ((q : List ℕ) → first q ≡ true → PersistsAt q turn.before.histories last) → AreJoined is_in turn.before.histories
        → StartsFrom calls scope (under parent) span builder moment turn → (is_in q ≡ true) ⊎ ((is_name q span ≡ true) × (is_in parent ≡ true) × (made_span turn.answer ≡ true)) → IsJoined turn.after.histories q
    under_joins scope is_in parent span builder moment turn q by_parents is_open keeps joined h (inl is) = stays_joined scope is_in (start_span (under parent) span builder moment) turn (λ p. refl) joined h q is
    under_joins scope is_in parent span builder moment turn q by_parents is_open keeps joined h (inr also) =
        child_joins (turn.before.histories parent) scope turn span parent q builder moment by_parents is_open (keeps parent) refl (joined parent also.1) also.0 also.2 h

    origin_joins : (scope : PlainScope) (is_in : List ℕ → Bool) (origin : PlainOrigin) (span : List ℕ) (builder : PlainSpanBuilder) (moment : ℕ) (turn : Turn P S G)
        → GoesByParents calls.sampler turn.before.provider.sampler → turn.before.provider.is_shut ≡ false → ((q : List ℕ) → first q ≡ true → PersistsAt q turn.before.histories last) → AreJoined is_in turn.before.histories
        → StartsFrom calls scope origin span builder moment turn → AreJoined (with_child is_in (start_span origin span builder moment) turn.answer) turn.after.histories
    origin_joins scope is_in at_root span builder moment turn by_parents is_open keeps joined h = stays_joined scope is_in (start_span at_root span builder moment) turn (λ q. refl) joined h
    origin_joins scope is_in (from_header header) span builder moment turn by_parents is_open keeps joined h = stays_joined scope is_in (start_span (from_header header) span builder moment) turn (λ q. refl) joined h
    origin_joins scope is_in (under parent) span builder moment turn by_parents is_open keeps joined h = λ q e.
        under_joins scope is_in parent span builder moment turn q by_parents is_open keeps joined h (which (is_in q) (is_name q span) (is_in parent) (made_span turn.answer) e)

    forget_joins : (scope : PlainScope) (is_in : List ℕ → Bool) (span : List ℕ) (turn : Turn P S G) → AreJoined is_in turn.before.histories → ForgetTurn span turn → AreJoined (with_child is_in (forget_span span) turn.answer) turn.after.histories
    forget_joins scope is_in span turn joined h q e =
        let parts = but_not (is_in q) (forgets (forget_span span) turn.answer q) e in
        persists_joined q turn.before.histories turn.after.histories (forget_persists calls span q turn parts.1 h) (joined q parts.0)

    one_joins : (scope : PlainScope) (is_in : List ℕ → Bool) (action : PlainAction) (turn : Turn P S G)
        → GoesByParents calls.sampler turn.before.provider.sampler → turn.before.provider.is_shut ≡ false → ((q : List ℕ) → first q ≡ true → PersistsAt q turn.before.histories last) → AreJoined is_in turn.before.histories
        → TakesAction calls scope action turn → AreJoined (with_child is_in action turn.answer) turn.after.histories
    one_joins scope is_in (start_span origin span builder moment) turn by_parents is_open keeps joined h = origin_joins scope is_in origin span builder moment turn by_parents is_open keeps joined h
    one_joins scope is_in (edit_span span edit) turn by_parents is_open keeps joined h = stays_joined scope is_in (edit_span span edit) turn (λ q. refl) joined h
    one_joins scope is_in (link_span span target) turn by_parents is_open keeps joined h = stays_joined scope is_in (link_span span target) turn (λ q. refl) joined h
    one_joins scope is_in (inject_span span) turn by_parents is_open keeps joined h = stays_joined scope is_in (inject_span span) turn (λ q. refl) joined h
    one_joins scope is_in (end_span span moment) turn by_parents is_open keeps joined h = stays_joined scope is_in (end_span span moment) turn (λ q. refl) joined h
    one_joins scope is_in (call_provider call) turn by_parents is_open keeps joined h = stays_joined scope is_in (call_provider call) turn (λ q. refl) joined h
    one_joins scope is_in (forget_span span) turn by_parents is_open keeps joined h = forget_joins scope is_in span turn joined h

    -- commands one after another
    all_join : (scope : PlainScope) (is_in : List ℕ → Bool) (old new : Course P S G) (commands : List PlainCommand) (turns : List (Turn P S G))
        → GoesByParents calls.sampler old.provider.sampler → old.provider.is_shut ≡ false → NoneForgotten first commands (map (reply_of calls) turns) → new.histories ≡ last → AreJoined is_in old.histories
        → AreTurns calls scope old commands turns new → EachAgrees root (with_children is_in commands (map (reply_of calls) turns)) last
    all_join scope is_in old new [] [] by_parents is_open none ends joined h = λ q e.
        joined_agrees q (subst (λ (histories : Histories). IsJoined histories q) (sym (ap (λ (c : Course P S G). c.histories) h) ∙ ends) (joined q e))
    all_join scope is_in old new [] (turn ∷ turns) by_parents is_open none ends joined h = absurd h
    all_join scope is_in old new (command ∷ commands) [] by_parents is_open none ends joined h = absurd h
    all_join scope is_in old new (command ∷ commands) (turn ∷ turns) by_parents is_open none ends joined h = by (is_shutdown (action_of command)) refl
        (λ next still stays_open joins. all_join scope next h.3.0 new commands turns (subst (GoesByParents calls.sampler) (sym (replied_sampler calls turn.after h.3.0 h.3.1)) still)
        (replied_shut calls turn.after h.3.0 h.3.1 ∙ stays_open) (λ q is. (others q is).1) ends (subst (AreJoined next) (sym h.3.1.histories) joins) h.3.2)
      where
        others : (q : List ℕ) → first q ≡ true → (forgets (action_of command) turn.answer q ≡ false) × (is_forgotten commands (map (reply_of calls) turns) q ≡ false)
        others q is = neither (forgets (action_of command) turn.answer q) (is_forgotten commands (map (reply_of calls) turns) q) (none q is)

        -- to the end, where the name is not given up
        after : (q : List ℕ) → is_forgotten commands (map (reply_of calls) turns) q ≡ false → PersistsAt q turn.after.histories last
        after q other = subst (PersistsAt q turn.after.histories) ends (from_next calls q turn.after h.3.0 new h.3.1 (all_persist calls scope q h.3.0 new commands turns other h.3.2))

        before : (q : List ℕ) → forgets (action_of command) turn.answer q ≡ false → is_forgotten commands (map (reply_of calls) turns) q ≡ false → PersistsAt q turn.before.histories last
        before q one other = persists_on q turn.before.histories turn.after.histories last (one_persists calls scope (action_of command) turn q one h.1.is_turn) (after q other)

        found : AreJoined is_in turn.before.histories
        found = subst (λ (c : Course P S G). AreJoined is_in c.histories) (sym h.0) joined

        goes : GoesByParents calls.sampler turn.before.provider.sampler
        goes = subst (λ (c : Course P S G). GoesByParents calls.sampler c.provider.sampler) (sym h.0) by_parents

        opened : turn.before.provider.is_shut ≡ false
        opened = ap (λ (c : Course P S G). c.provider.is_shut) h.0 ∙ is_open

        by : (b : Bool) → is_shutdown (action_of command) ≡ b
            → ((next : List ℕ → Bool) → GoesByParents calls.sampler turn.after.provider.sampler → turn.after.provider.is_shut ≡ false → AreJoined next turn.after.histories → EachAgrees root (with_children next commands (map (reply_of calls) turns)) last)
            → EachAgrees root (if b then (λ q. is_in q && not (is_forgotten commands (map (reply_of calls) turns) q)) else with_children (with_child is_in (action_of command) turn.answer) commands (map (reply_of calls) turns)) last
        by true e on = λ q is.
            let parts = but_not (is_in q) (is_forgotten commands (map (reply_of calls) turns) q) is in
            joined_agrees q (persists_joined q turn.before.histories last (before q (shutdown_forgets_none (action_of command) turn.answer q e) parts.1) (found q parts.0))
        by false e on =
            let stay = one_stays scope (action_of command) turn e h.1.is_turn in
            on (with_child is_in (action_of command) turn.answer) (subst (GoesByParents calls.sampler) (sym stay.1) goes) (stay.0 ∙ opened)
            (one_joins scope is_in (action_of command) turn goes opened (λ q is. before q (others q is).0 (others q is).1) found h.1.is_turn)

  pub children_agree : (scope : PlainScope) (old new : Course P S G) (commands : List PlainCommand) (turns : List (Turn P S G)) (replies : List PlainReply) (are : NamedSpans)
      → Describe new.histories are → replies ≡ map (reply_of calls) turns → AreTurns calls scope old commands turns new
      → GoesByParents calls.sampler old.provider.sampler → old.provider.is_shut ≡ false → ChildrenAgree commands replies are
  children_agree scope old new commands turns replies are last told h by_parents is_open =
      subst (λ (rs : List PlainReply). ChildrenAgree commands rs are) (sym told) (λ root is_in none agree q e.
      let agreed : EachAgrees root is_in new.histories = λ p is.
      let there = agree p is in
      let found = by_history (new.histories p) there.0 (sym there.1 ∙ last p) in
      (found.0, found.1, subst (λ (s : PlainSpan). Agrees root s.span_context) (sym found.2) there.2) in
      let also = all_join root is_in new.histories agreed scope is_in old new commands turns by_parents is_open none refl (λ p is. inl is) h q e in
      (span_of also.0, last q ∙ ap (option_map span_of) also.1, also.2))
