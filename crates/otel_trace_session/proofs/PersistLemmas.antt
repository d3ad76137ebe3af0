-- A name that commands do not give up keeps a span with its span context.
use Rattle.std.proofs.Common.{◌≡◌, ℕ, Bool, true, false, if◌then◌else◌, ◌||◌, List, [], ◌∷◌, Option, Some, None, map, refl, sym, ◌∙◌, ap, subst}
use Rattle.std.proofs.lemmas.Option.{none-some, same_Some}
use Rattle.std.specs.Option.{option_map}
use Rattle.opentelemetry.specs.Plain.{PlainScope, PlainSpanContext}
use Rattle.opentelemetry.specs.PlainContexts.{root_cx}
use Rattle.opentelemetry.specs.PlainSpanBuilder.{PlainSpanBuilder}
use Rattle.otel_pipeline.specs.SpanEdits.{add_link, new_link}
use Rattle.otel_pipeline.specs.SpanHistory.{PlainSpan, SpanHistory, Edit, begun, over, span_of}
use Rattle.otel_trace_lines.specs.Commands.{PlainCommand}
use Rattle.otel_trace_lines.specs.PlainReply.{PlainReply}
use Rattle.otel_trace_lines.specs.declared.reply.Answer.{Answer}
use Rattle.otel_trace_lines.specs.declared.reply.Answer.TheVariants as answers
use Rattle.otel_trace_session.specs.Actions.{PlainAction, PlainOrigin, action_of, at_root, under, from_header}
use Rattle.otel_trace_session.specs.Actions.{start_span, edit_span, inject_span, end_span, call_provider, link_span, forget_span}
use Rattle.otel_trace_session.specs.Calls.{Calls}
use Rattle.otel_trace_session.specs.Headers.{child_cx}
use Rattle.otel_trace_session.specs.OpenSpans.{Describe, Histories, NamedSpans, edited_history, edited_in, forget_answer, forgotten_by, is_name, linked_by, with_history}
use Rattle.otel_trace_session.specs.SpanTurns.{ChildTurn, EndTurn, ForgetTurn, Start, StartsAfter, StartsFrom, start_in}
use Rattle.otel_trace_session.specs.Traces.{KeepsContexts, forgets, is_forgotten}
use Rattle.otel_trace_session.specs.Turn.{AsksNobody, Course, Turn}
use Rattle.otel_trace_session.specs.Turns.{AreTurns, Replied, TakesAction, reply_of}
use Rattle.otel_trace_session.proofs.NamedLemmas.{by_history, same_name}

-- the span context of a history
abbrev pub context_of : SpanHistory → PlainSpanContext
context_of h = (span_of h).span_context

-- a name that has a history keeps one with its span context
abbrev pub PersistsAt : List ℕ → Histories → Histories → Type 0
PersistsAt q old new = (h : SpanHistory) → old q ≡ Some h → (g : SpanHistory) × (new q ≡ Some g) × (context_of g ≡ context_of h)

-- each name does
abbrev Persists : Histories → Histories → Type 0
Persists old new = (q : List ℕ) → PersistsAt q old new

persists_same : (old new : Histories) → new ≡ old → Persists old new
persists_same old new e q h there = (h, ap (λ (histories : Histories). histories q) e ∙ there, refl)

pub persists_on : (q : List ℕ) (old middle new : Histories) → PersistsAt q old middle → PersistsAt q middle new → PersistsAt q old new
persists_on q old middle new first rest h there =
    let one = first h there in
    let two = rest one.0 one.1 in
    (two.0, two.1, two.2 ∙ one.2)

-- a history that is put under a new name
beside_by : (histories : Histories) (name : List ℕ) (new h : SpanHistory) (q : List ℕ) (b : Bool) → is_name q name ≡ b → histories name ≡ None → histories q ≡ Some h
    → (if b then Some new else histories q) ≡ Some h
beside_by histories name new h q true e none there = absurd (none-some h (sym none ∙ ap histories (sym (same_name q name e)) ∙ there))
beside_by histories name new h q false e none there = there

put_persists : (histories : Histories) (name : List ℕ) (new : SpanHistory) → histories name ≡ None → Persists histories (with_history histories name new)
put_persists histories name new none q h there = (h, beside_by histories name new h q (is_name q name) refl none there, refl)

-- a history that goes on under its name
again_by : (histories : Histories) (name : List ℕ) (old new h : SpanHistory) (q : List ℕ) (b : Bool) → is_name q name ≡ b → histories name ≡ Some old → context_of new ≡ context_of old → histories q ≡ Some h
    → (g : SpanHistory) × ((if b then Some new else histories q) ≡ Some g) × (context_of g ≡ context_of h)
again_by histories name old new h q true e is context there =
    let same = same_Some old h (sym is ∙ ap histories (sym (same_name q name e)) ∙ there) in
    (new, refl, context ∙ ap context_of same)
again_by histories name old new h q false e is context there = (h, there, refl)

again_persists : (histories : Histories) (name : List ℕ) (old new : SpanHistory) → histories name ≡ Some old → context_of new ≡ context_of old → Persists histories (with_history histories name new)
again_persists histories name old new is context q h there = again_by histories name old new h q (is_name q name) refl is context there

-- a history that is edited under its name
edited_context : (edit : Edit) (h : SpanHistory) → context_of (edited_history edit h) ≡ context_of h
edited_context edit (over context limits) = refl
edited_context edit (begun from edits) = refl

edited_by : (histories : Histories) (span : List ℕ) (edit : Edit) (h : SpanHistory) (q : List ℕ) (b : Bool) → is_name q span ≡ b → histories q ≡ Some h
    → (g : SpanHistory) × ((if b then option_map (edited_history edit) (histories span) else histories q) ≡ Some g) × (context_of g ≡ context_of h)
edited_by histories span edit h q true e there = (edited_history edit h, ap (option_map (edited_history edit)) (ap histories (sym (same_name q span e)) ∙ there), edited_context edit h)
edited_by histories span edit h q false e there = (h, there, refl)

edited_persists : (histories : Histories) (span : List ℕ) (edit : Edit) → Persists histories (edited_in histories span edit)
edited_persists histories span edit q h there = edited_by histories span edit h q (is_name q span) refl there

-- another name is given up
another_by : (histories : Histories) (q : List ℕ) (h : SpanHistory) (b : Bool) → b ≡ false → histories q ≡ Some h → (if b then None else histories q) ≡ Some h
another_by histories q h true e there = cc
another_by histories q h false e there = there

forgotten_persists : (found : Option SpanHistory) (histories : Histories) (span q : List ℕ) (answer : Answer) → answer ≡ forget_answer found → forgets (forget_span span) answer q ≡ false → PersistsAt q histories (forgotten_by found histories span)
forgotten_persists None histories span q answer says other h there = (h, there, refl)
forgotten_persists (Some (over context limits)) histories span q answer says other h there =
    (h, another_by histories q h (is_name q span) (subst (λ (a : Answer). forgets (forget_span span) a q ≡ false) says other) there, refl)
forgotten_persists (Some (begun from edits)) histories span q answer says other h there = (h, there, refl)

-- neither of two
pub neither : (a b : Bool) → (a || b) ≡ false → (a ≡ false) × (b ≡ false)
neither true b e = cc
neither false b e = (refl, e)

module _ {P S G : Type 0} (calls : Calls P S G) where
  -- histories keep their span contexts over a turn
  abbrev PersistsIn : Turn P S G → Type 0
  PersistsIn turn = Persists turn.before.histories turn.after.histories

  same_persists : (turn : Turn P S G) → turn.after.histories ≡ turn.before.histories → PersistsIn turn
  same_persists turn e = persists_same turn.before.histories turn.after.histories e

  nobody_persists : (said : Answer) (turn : Turn P S G) → AsksNobody said turn.before.histories turn → PersistsIn turn
  nobody_persists said turn h = same_persists turn (ap (λ (c : Course P S G). c.histories) h.rest)

  start_persists : (found : Option SpanHistory) (asked : Start) (turn : Turn P S G) → turn.before.histories asked.span ≡ found → StartsAfter calls found asked turn → PersistsIn turn
  start_persists (Some history) asked turn e h = nobody_persists answers.SpanExists turn h
  start_persists None asked turn e h = subst (Persists turn.before.histories) (sym h.histories) (put_persists turn.before.histories asked.span h.history e)

  child_persists : (found : Option SpanHistory) (asked : Start) (turn : Turn P S G) → ChildTurn calls asked found turn → PersistsIn turn
  child_persists None asked turn h = nobody_persists answers.NoSuchSpan turn h
  child_persists (Some parent) asked turn h = start_persists (turn.before.histories asked.span) (record asked { cx = child_cx (span_of parent).span_context }) turn refl h

  edit_persists : (said : Answer) (span : List ℕ) (edit : Edit) (turn : Turn P S G) → AsksNobody said (edited_in turn.before.histories span edit) turn → PersistsIn turn
  edit_persists said span edit turn h = subst (Persists turn.before.histories) (sym (ap (λ (c : Course P S G). c.histories) h.rest)) (edited_persists turn.before.histories span edit)

  link_persists : (found : Option SpanHistory) (said : Answer) (span : List ℕ) (turn : Turn P S G) → AsksNobody said (linked_by found turn.before.histories span) turn → PersistsIn turn
  link_persists None said span turn h = nobody_persists said turn h
  link_persists (Some target) said span turn h = edit_persists said span (add_link (new_link (span_of target).span_context [])) turn h

  end_persists : (found : Option SpanHistory) (span : List ℕ) (moment : ℕ) (turn : Turn P S G) → turn.before.histories span ≡ found → EndTurn calls.processor span moment found turn → PersistsIn turn
  end_persists None span moment turn e h = nobody_persists answers.NoSuchSpan turn h
  end_persists (Some (over context limits)) span moment turn e h = nobody_persists answers.Ignored turn h
  end_persists (Some (begun from edits)) span moment turn e h =
      subst (Persists turn.before.histories) (sym h.histories) (again_persists turn.before.histories span (begun from edits) (over from.span_context from.limits) e refl)

  origin_persists : (scope : PlainScope) (origin : PlainOrigin) (span : List ℕ) (builder : PlainSpanBuilder) (moment : ℕ) (turn : Turn P S G) → StartsFrom calls scope origin span builder moment turn → PersistsIn turn
  origin_persists scope at_root span builder moment turn h = start_persists (turn.before.histories span) (start_in scope root_cx span builder moment) turn refl h
  origin_persists scope (under parent) span builder moment turn h = child_persists (turn.before.histories parent) (start_in scope root_cx span builder moment) turn h
  origin_persists scope (from_header header) span builder moment turn h = start_persists (turn.before.histories span) (start_in scope h.cx span builder moment) turn refl h.starts

  pub forget_persists : (span q : List ℕ) (turn : Turn P S G) → forgets (forget_span span) turn.answer q ≡ false → ForgetTurn span turn → PersistsAt q turn.before.histories turn.after.histories
  forget_persists span q turn other h =
      subst (PersistsAt q turn.before.histories) (sym (ap (λ (c : Course P S G). c.histories) h.rest))
      (forgotten_persists (turn.before.histories span) turn.before.histories span q turn.answer h.says other)

  -- over any action that does not give the name up
  pub one_persists : (scope : PlainScope) (action : PlainAction) (turn : Turn P S G) (q : List ℕ) → forgets action turn.answer q ≡ false → TakesAction calls scope action turn → PersistsAt q turn.before.histories turn.after.histories
  one_persists scope (start_span origin span builder moment) turn q other h = origin_persists scope origin span builder moment turn h q
  one_persists scope (edit_span span edit) turn q other h = edit_persists _ span _ turn h q
  one_persists scope (link_span span target) turn q other h = link_persists (turn.before.histories target) _ span turn h q
  one_persists scope (inject_span span) turn q other h = same_persists turn (ap (λ (c : Course P S G). c.histories) h.rest) q
  one_persists scope (end_span span moment) turn q other h = end_persists (turn.before.histories span) span moment turn refl h q
  one_persists scope (call_provider call) turn q other h = same_persists turn (ap (λ (c : Course P S G). c.histories) h.rest) q
  one_persists scope (forget_span span) turn q other h = forget_persists span q turn other h

  -- what persists from where a session stands after a reply
  pub from_next : (q : List ℕ) (course next new : Course P S G) → Replied calls course next → PersistsAt q next.histories new.histories → PersistsAt q course.histories new.histories
  from_next q course next new replied h = subst (λ (histories : Histories). PersistsAt q histories new.histories) replied.histories h

  -- commands one after another, none of which gives the name up
  pub all_persist : (scope : PlainScope) (q : List ℕ) (old new : Course P S G) (commands : List PlainCommand) (turns : List (Turn P S G)) → is_forgotten commands (map (reply_of calls) turns) q ≡ false
      → AreTurns calls scope old commands turns new → PersistsAt q old.histories new.histories
  all_persist scope q old new [] [] other h = persists_same old.histories new.histories (ap (λ (c : Course P S G). c.histories) h) q
  all_persist scope q old new [] (turn ∷ turns) other h = absurd h
  all_persist scope q old new (command ∷ commands) [] other h = absurd h
  all_persist scope q old new (command ∷ commands) (turn ∷ turns) other h =
      let others = neither (forgets (action_of command) turn.answer q) (is_forgotten commands (map (reply_of calls) turns) q) other in
      subst (λ (c : Course P S G). PersistsAt q c.histories new.histories) h.0
      (persists_on q turn.before.histories turn.after.histories new.histories (one_persists scope (action_of command) turn q others.0 h.1.is_turn)
      (from_next q turn.after h.3.0 new h.3.1 (all_persist scope q h.3.0 new commands turns others.1 h.3.2)))

  -- the spans of names, by histories that they have
  pub contexts_kept : (scope : PlainScope) (old new : Course P S G) (commands : List PlainCommand) (turns : List (Turn P S G)) (replies : List PlainReply) (were are : NamedSpans)
      → Describe old.histories were → Describe new.histories are → replies ≡ map (reply_of calls) turns → AreTurns calls scope old commands turns new → KeepsContexts commands replies were are
  contexts_kept scope old new commands turns replies were are first last told h = subst (λ (rs : List PlainReply). KeepsContexts commands rs were are) (sym told) (λ q was other there.
      let found = by_history (old.histories q) was (sym there ∙ first q) in
      let kept = all_persist scope q old new commands turns other h found.0 found.1 in
      (span_of kept.0, last q ∙ ap (option_map span_of) kept.1, kept.2 ∙ ap (λ (s : PlainSpan). s.span_context) found.2))
