-- A map whose keys are texts, seen as the spans of their names.
use Rattle.std.proofs.Common.{◌≡◌, ℕ, Bool, true, false, cond, if◌then◌else◌, List, [], ◌∷◌, string_bytes, String, Option, Some, None, Result, Ok, Err, IfOk, OnErr, refl, sym, ◌∙◌, ap, subst, inl, inr}
use Rattle.std.specs.Ordering.{nat_cmp}
use Rattle.std.specs.Cmp.{eq_by_cmp_equiv}
use Rattle.std.specs.Cmp.Lexicographic.{slice_cmp, nat_list_cmp_total}
use Rattle.std.specs.FinMap.{slice_cmp-IsAntisymmetric, nat_cmp-IsAntisymmetric}
use Rattle.std.specs.BTreeMap.{BTreeMap, is_at, get_by_text, UpdatesBy}
use Rattle.std.specs.Map.{lookup}
use Rattle.std.specs.String.{string_cmp}
use Rattle.std.proofs.lemmas.Map.Text.{btree_map_updates_text, is_eq-slice_cmp}
use Rattle.opentelemetry.proofs.TextMapLemmas.{equal_from}
use Rattle.opentelemetry.specs.Plain.{PlainContext}
use Rattle.opentelemetry.specs.PlainSpanBuilder.{PlainSpanBuilder}
use Rattle.otel_pipeline.specs.Provider.{ProviderState}
use Rattle.std.specs.Option.{option_map}
use Rattle.otel_pipeline.specs.SpanHistory.{PlainSpan, SpanHistory, HasHistory, Edit, edited, edited_if, ended, span_of}
use Rattle.otel_pipeline.proofs.SpanLaws.{keeps_history, over_history}
use Rattle.otel_trace_lines.specs.declared.reply.Answer.{Answer}
use Rattle.otel_trace_session.specs.Calls.{Calls}
use Rattle.otel_trace_session.specs.OpenSpans.{ChildMayStart, Describe, DropsSpan, HaveHistories, Histories, MayStart, NamedSpans, PutsSpan, SameSpans, by_name, is_name, named}
use Rattle.otel_trace_session.specs.Headers.{child_cx}
use Rattle.otel_trace_session.specs.Turn.{TurnsFromAny, Turn}

named-lookup : {Y : Type 0} (entries : List (String Y × PlainSpan)) (q : List ℕ) → named (by_name entries) q ≡ lookup (is_at (λ k. slice_cmp nat_cmp q (string_bytes k))) entries
named-lookup [] q = refl
named-lookup (entry ∷ entries) q = ap (cond (is_name q (string_bytes entry.0)) (Some entry.1)) (named-lookup entries q)

-- the span of a name is what the map has there
pub named-get : {Y : Type 0} (m : BTreeMap (String Y) PlainSpan) (q : List ℕ) → named (by_name m.entries) q ≡ get_by_text m q
named-get m q = named-lookup m.entries q

-- one name was given a span or lost it
pub updates_named : {Y : Type 0} (m n : BTreeMap (String Y) PlainSpan) (s : List ℕ) (w : Option PlainSpan) → UpdatesBy string_cmp (λ k. slice_cmp nat_cmp s (string_bytes k)) m n w
    → (q : List ℕ) → named (by_name n.entries) q ≡ cond (is_name q s) w (named (by_name m.entries) q)
updates_named m n s w h q =
    named-get n q ∙ btree_map_updates_text s m n w h q
    ∙ ap (λ (b : Bool). cond b w (get_by_text m q)) (sym (is_eq-slice_cmp s q) ∙ (eq_by_cmp_equiv nat_list_cmp_total).symm s q)
    ∙ ap (λ (o : Option PlainSpan). cond (is_name q s) w o) (sym (named-get m q))

pub puts_span : {Y : Type 0} (m n : BTreeMap (String Y) PlainSpan) (s : List ℕ) (span : PlainSpan) → UpdatesBy string_cmp (λ k. slice_cmp nat_cmp s (string_bytes k)) m n (Some span)
    → PutsSpan (by_name m.entries) s span (by_name n.entries)
puts_span m n s span h = updates_named m n s (Some span) h

-- a name is its own
pub is_itself : (q : List ℕ) → is_name q q ≡ true
is_itself q = (eq_by_cmp_equiv nat_list_cmp_total).refl q

-- names that compare equal are one
pub same_name : (q s : List ℕ) → is_name q s ≡ true → q ≡ s
same_name q s e = slice_cmp-IsAntisymmetric nat_cmp-IsAntisymmetric q s (equal_from _ e)

put_there : (spans : NamedSpans) (s : List ℕ) (span : PlainSpan) (q : List ℕ) (b : Bool) → is_name q s ≡ b → named spans s ≡ Some span → (if b then Some span else named spans q) ≡ named spans q
put_there spans s span q false e h = refl
put_there spans s span q true e h = sym h ∙ ap (named spans) (sym (same_name q s e))

-- a span put where it stands changes nothing
pub put_same : (old new : NamedSpans) (s : List ℕ) (span : PlainSpan) → named old s ≡ Some span → PutsSpan old s span new → SameSpans old new
put_same old new s span there put = λ q. put q ∙ put_there old s span q (is_name q s) refl there

-- and a name that keeps its span was given it
pub same_puts : (old new : NamedSpans) (s : List ℕ) (span : PlainSpan) → named old s ≡ Some span → SameSpans old new → PutsSpan old s span new
same_puts old new s span there same = λ q. same q ∙ sym (put_there old s span q (is_name q s) refl there)

-- entries that stay
pub same_entries : {Y : Type 0} (old new : List (String Y × PlainSpan)) → new ≡ old → SameSpans (by_name old) (by_name new)
same_entries {Y} old new h = λ q. ap (λ (entries : List (String Y × PlainSpan)). named (by_name entries) q) h

-- the same, where the new entries are those that an entry of the old map says
pub puts_written : {Y : Type 0} (m written : BTreeMap (String Y) PlainSpan) (entries : List (String Y × PlainSpan)) (s : List ℕ) (value span : PlainSpan) → value ≡ span → entries ≡ written.entries
    → UpdatesBy string_cmp (λ k. slice_cmp nat_cmp s (string_bytes k)) m written (Some value) → PutsSpan (by_name m.entries) s span (by_name entries)
puts_written {Y} m written entries s value span same e h =
    subst (λ (l : List (String Y × PlainSpan)). PutsSpan (by_name m.entries) s span (by_name l)) (sym e)
    (subst (λ (v : PlainSpan). PutsSpan (by_name m.entries) s v (by_name written.entries)) same (puts_span m written s value h))

-- two clauses of a result that is an error
pub on_err_both : {T E : Type 0} {A B C : Type 0} (r : Result T E) → (A → B → C) → OnErr r A → OnErr r B → OnErr r C
on_err_both (Ok x) f h k = tt
on_err_both (Err e) f h k = f h k

module _ {P S G : Type 0} (calls : Calls P S G) where
  -- a start that is refused, under a name that has no span
  pub may_start_free : (p q : ProviderState P S G) (cx : PlainContext) (builder : PlainSpanBuilder) (now : ℕ) (found : Option PlainSpan)
      → found ≡ None → MayStart calls p cx builder now None q → MayStart calls p cx builder now found q
  may_start_free p q cx builder now found free h = subst (λ (o : Option PlainSpan). MayStart calls p cx builder now o q) (sym free) h

  -- a start that is refused leaves each processor as it was
  pub refused_start_asks_none : (p q : ProviderState P S G) (cx : PlainContext) (builder : PlainSpanBuilder) (now : ℕ) (found : Option PlainSpan) → MayStart calls p cx builder now found q → q.processors ≡ p.processors
  refused_start_asks_none p q cx builder now (Some span) h = absurd h
  refused_start_asks_none p q cx builder now None (inl e) = ap (λ (r : ProviderState P S G). r.processors) e
  refused_start_asks_none p q cx builder now None (inr h) = ap (λ (r : ProviderState P S G). r.processors) h.rest

  pub refused_child_asks_none : (p q : ProviderState P S G) (parent : Option PlainSpan) (builder : PlainSpanBuilder) (now : ℕ) (found : Option PlainSpan) → ChildMayStart calls p parent builder now found q → q.processors ≡ p.processors
  refused_child_asks_none p q None name now found e = ap (λ (r : ProviderState P S G). r.processors) e
  refused_child_asks_none p q (Some parent) name now found (inl e) = ap (λ (r : ProviderState P S G). r.processors) e
  refused_child_asks_none p q (Some parent) name now found (inr h) = refused_start_asks_none p q (child_cx parent.span_context) name now found h

put_history : (spans : NamedSpans) (span was : PlainSpan) (q : List ℕ) (b : Bool) → HaveHistories spans → HasHistory span → (if b then Some span else named spans q) ≡ Some was → HasHistory was
put_history spans span was q true have has e = let same : span ≡ was = cc in subst HasHistory same has
put_history spans span was q false have has e = have q was e

-- spans with histories have them still where one is put that has one
pub puts_history : (old new : NamedSpans) (name : List ℕ) (span : PlainSpan) → HaveHistories old → HasHistory span → PutsSpan old name span new → HaveHistories new
puts_history old new name span have has put = λ q was there. put_history old span was q (is_name q name) have has (sym (put q) ∙ there)

drop_history : (spans : NamedSpans) (was : PlainSpan) (q : List ℕ) (b : Bool) → HaveHistories spans → (if b then None else named spans q) ≡ Some was → HasHistory was
drop_history spans was q true have e = cc
drop_history spans was q false have e = have q was e

-- and where one is dropped
pub drops_history : (old new : NamedSpans) (name : List ℕ) → HaveHistories old → DropsSpan old name new → HaveHistories new
drops_history old new name have gone = λ q was there. drop_history old was q (is_name q name) have (sym (gone q) ∙ there)

pub same_histories : (old new : NamedSpans) → HaveHistories old → SameSpans old new → HaveHistories new
same_histories old new have same = λ q was there. have q was (sym (same q) ∙ there)

-- the history of a span that may be there
found_history : (found : Option PlainSpan) → ((span : PlainSpan) → found ≡ Some span → HasHistory span) → (history : Option SpanHistory) × (found ≡ option_map span_of history)
found_history None has = (None, refl)
found_history (Some span) has = (Some (has span refl).history, ap Some (has span refl).is)

-- histories describe spans that have them
pub described : (spans : NamedSpans) → HaveHistories spans → (histories : List ℕ → Option SpanHistory) × ((q : List ℕ) → named spans q ≡ option_map span_of (histories q))
described spans have = (λ q. (found_history (named spans q) (have q)).0, λ q. (found_history (named spans q) (have q)).1)

-- a span keeps its history over an edit, and is over after its end
pub edited_has : (edit : Edit) (span : PlainSpan) → HasHistory span → HasHistory (edited edit span)
edited_has edit span has = keeps_history {T = Unit {0}} {E = Unit {0}} (Ok tt) edit span.span_context span.limits span.recorded (edited_if span.limits edit span.recorded) has refl tt

pub ended_has : (span : PlainSpan) → HasHistory (ended span)
ended_has span = over_history span.span_context span.limits None refl

-- the history of a span that is there
pub by_history : (found : Option SpanHistory) (span : PlainSpan) → Some span ≡ option_map span_of found → (h : SpanHistory) × (found ≡ Some h) × (span_of h ≡ span)
by_history None span e = cc
by_history (Some h) span e = (h, refl, cc e)

-- spans that histories describe have them
pub described_have : (histories : Histories) (spans : NamedSpans) → Describe histories spans → HaveHistories spans
described_have histories spans describes = λ name span there.
    let found = by_history (histories name) span (sym there ∙ describes name) in
    record { history = found.0; is = sym found.2 }

-- so spans have histories after a turn
pub took_histories : {P S G : Type 0} (Is : Turn P S G → Type 0) (p q : ProviderState P S G) (old new : NamedSpans) (answer : Answer) → HaveHistories old → TurnsFromAny Is p old answer q new → HaveHistories new
took_histories Is p q old new answer have takes =
    let first = described old have in
    let took = takes (record { provider = p; histories = first.0 }) first.1 in
    described_have took.histories new took.describes

-- be it that the turn was taken or refused
pub start_keeps_histories : {P S G E : Type 0} (Is : Turn P S G → Type 0) (result : Result Answer E) (p q : ProviderState P S G) (old new : NamedSpans)
    → HaveHistories old → IfOk result (λ answer. TurnsFromAny Is p old answer q new) → OnErr result (SameSpans old new) → HaveHistories new
start_keeps_histories Is (Ok answer) p q old new have ok err = took_histories Is p q old new answer have ok
start_keeps_histories Is (Err e) p q old new have ok err = same_histories old new have err
