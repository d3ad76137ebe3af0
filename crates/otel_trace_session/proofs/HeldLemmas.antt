-- The spans of a session in two maps: the open ones stand before those that are over.
use Rattle.std.proofs.Common.{◌≡◌, ℕ, Bool, true, false, ◌||◌, cond, if◌then◌else◌, List, [], ◌∷◌, ◌++◌, is_some, string_bytes, String, Option, Some, None, refl, sym, ◌∙◌, ap, subst}
use Rattle.std.specs.Ordering.{nat_cmp}
use Rattle.std.specs.Cmp.{eq_by_cmp_equiv}
use Rattle.std.specs.Cmp.Lexicographic.{slice_cmp, nat_list_cmp_total}
use Rattle.std.specs.BTreeMap.{BTreeMap, is_at, get_by_text, UpdatesBy}
use Rattle.std.specs.Map.{lookup}
use Rattle.std.specs.Option.{option_map}
use Rattle.std.specs.String.{string_cmp}
use Rattle.std.proofs.lemmas.Map.Text.{btree_map_updates_text, is_eq-slice_cmp}
use Rattle.opentelemetry.specs.Plain.{PlainSpanContext}
use Rattle.otel_pipeline.specs.Provider.{ProviderState}
use Rattle.otel_pipeline.specs.SpanHistory.{PlainSpan, Edit, edited}
use Rattle.otel_pipeline.specs.declared.trace.span_processor.SpanProcessor.{Ghosts}
use Rattle.otel_trace_lines.specs.declared.reply.Answer.{Answer}
use Rattle.otel_trace_lines.specs.declared.reply.Answer.TheVariants as answers
use Rattle.otel_trace_session.specs.Ended.{EndedIdentity, ended_span}
use Rattle.otel_trace_session.specs.OpenSpans.{DropsSpan, NamedSpans, PutsSpan, SameSpans, is_name, named, finished_by_name, records}
use Rattle.otel_trace_session.specs.Turn.{TurnsFromAny}
use Rattle.otel_trace_session.proofs.NamedLemmas.{same_name, same_puts}
use Rattle.otel_trace_session.proofs.TurnLemmas.{Edits, EndsNamed, edits_absent, edits_there, ends_absent, ends_there, said}

-- a span that may be there, or else another
abbrev or_else : Option PlainSpan → Option PlainSpan → Option PlainSpan
or_else None rest = rest
or_else (Some span) rest = Some span

first_of : (b : Bool) (span : PlainSpan) (found rest whole : Option PlainSpan) → whole ≡ or_else found rest → cond b (Some span) whole ≡ or_else (cond b (Some span) found) rest
first_of true span found rest whole e = refl
first_of false span found rest whole e = e

-- what a span that may be there has of its span context
pub map_context : {B : Type 0} (of : PlainSpanContext → B) (found : Option PlainSpan) → option_map (λ s. of s.span_context) found ≡ option_map of (option_map (λ s. s.span_context) found)
map_context of None = refl
map_context of (Some span) = refl

-- the span of a name among spans and others behind them
named-append : (spans rest : NamedSpans) (q : List ℕ) → named (spans ++ rest) q ≡ or_else (named spans q) (named rest q)
named-append [] rest q = refl
named-append (entry ∷ spans) rest q = first_of (is_name q entry.0) entry.1 (named spans q) (named rest q) (named (spans ++ rest) q) (named-append spans rest q)

pub there_before : (spans rest : NamedSpans) (s : List ℕ) (span : PlainSpan) → named spans s ≡ Some span → named (spans ++ rest) s ≡ Some span
there_before spans rest s span there = named-append spans rest s ∙ ap (λ (o : Option PlainSpan). or_else o (named rest s)) there

pub absent_before : (spans rest : NamedSpans) (s : List ℕ) → named spans s ≡ None → named (spans ++ rest) s ≡ named rest s
absent_before spans rest s absent = named-append spans rest s ∙ ap (λ (o : Option PlainSpan). or_else o (named rest s)) absent

none_or : (o : Option PlainSpan) → or_else o None ≡ o
none_or None = refl
none_or (Some span) = refl

-- where the others have no span of a name
pub free_behind : (spans rest : NamedSpans) (s : List ℕ) → named rest s ≡ None → named (spans ++ rest) s ≡ named spans s
free_behind spans rest s free = named-append spans rest s ∙ ap (or_else (named spans s)) free ∙ none_or (named spans s)

put_first : (b : Bool) (span : PlainSpan) (found rest : Option PlainSpan) → or_else (cond b (Some span) found) rest ≡ cond b (Some span) (or_else found rest)
put_first true span found rest = refl
put_first false span found rest = refl

-- a span is put before others
pub puts_before : (old new rest : NamedSpans) (s : List ℕ) (span : PlainSpan) → PutsSpan old s span new → PutsSpan (old ++ rest) s span (new ++ rest)
puts_before old new rest s span put = λ q. named-append new rest q ∙ ap (λ (o : Option PlainSpan). or_else o (named rest q)) (put q)
    ∙ put_first (is_name q s) span (named old q) (named rest q) ∙ ap (cond (is_name q s) (Some span)) (sym (named-append old rest q))

pub same_both : (old new rest more : NamedSpans) → SameSpans old new → SameSpans rest more → SameSpans (old ++ rest) (new ++ more)
same_both old new rest more same also = λ q. named-append new more q ∙ ap (λ (o : Option PlainSpan). or_else o (named more q)) (same q)
    ∙ ap (or_else (named old q)) (also q) ∙ sym (named-append old rest q)

pub same_before : (old new rest : NamedSpans) → SameSpans old new → SameSpans (old ++ rest) (new ++ rest)
same_before old new rest same = same_both old new rest rest same (λ q. refl)

behind : (old rest more : NamedSpans) (s : List ℕ) (found kept : PlainSpan) (q : List ℕ) (b : Bool) → is_name q s ≡ b → named old s ≡ Some found → named more q ≡ cond b (Some kept) (named rest q)
    → or_else (named old q) (named more q) ≡ or_else (named old q) (named rest q)
behind old rest more s found kept q true e there put =
    let here : named old q ≡ Some found = ap (named old) (same_name q s e) ∙ there in
    ap (λ (o : Option PlainSpan). or_else o (named more q)) here ∙ sym (ap (λ (o : Option PlainSpan). or_else o (named rest q)) here)
behind old rest more s found kept q false e there put = ap (or_else (named old q)) put

-- one that is put behind the span of its name does not show
pub puts_behind : (old new rest more : NamedSpans) (s : List ℕ) (found kept : PlainSpan) → named old s ≡ Some found → SameSpans old new → PutsSpan rest s kept more → SameSpans (old ++ rest) (new ++ more)
puts_behind old new rest more s found kept there same put = λ q. named-append new more q ∙ ap (λ (o : Option PlainSpan). or_else o (named more q)) (same q)
    ∙ behind old rest more s found kept q (is_name q s) refl there (put q) ∙ sym (named-append old rest q)

drop_put : (b : Bool) (span : PlainSpan) (found : Option PlainSpan) → cond b None (cond b (Some span) found) ≡ cond b None found
drop_put true span found = refl
drop_put false span found = refl

-- what stands behind is of its name, where that has no other
pub some_behind : (spans rest : NamedSpans) (s : List ℕ) (span : PlainSpan) → named rest s ≡ Some span → (found : PlainSpan) × (named (spans ++ rest) s ≡ Some found)
some_behind spans rest s span there = by (named spans s) refl
  where
    by : (first : Option PlainSpan) → named spans s ≡ first → (found : PlainSpan) × (named (spans ++ rest) s ≡ Some found)
    by None e = (span, absent_before spans rest s e ∙ there)
    by (Some found) e = (found, there_before spans rest s found e)

-- one that was put first
pub drops_put : (old middle new : NamedSpans) (s : List ℕ) (span : PlainSpan) → PutsSpan old s span middle → DropsSpan middle s new → DropsSpan old s new
drops_put old middle new s span put gone = λ q. gone q ∙ ap (cond (is_name q s) None) (put q) ∙ drop_put (is_name q s) span (named old q)

moved : (b : Bool) (span : PlainSpan) (found rest : Option PlainSpan) → or_else (cond b None found) (cond b (Some span) rest) ≡ cond b (Some span) (or_else found rest)
moved true span found rest = refl
moved false span found rest = refl

-- the span of a name moves behind
pub puts_moved : (old new rest more : NamedSpans) (s : List ℕ) (span : PlainSpan) → DropsSpan old s new → PutsSpan rest s span more → PutsSpan (old ++ rest) s span (new ++ more)
puts_moved old new rest more s span gone put = λ q. named-append new more q ∙ ap (λ (o : Option PlainSpan). or_else o (named more q)) (gone q)
    ∙ ap (or_else (cond (is_name q s) None (named old q))) (put q) ∙ moved (is_name q s) span (named old q) (named rest q)
    ∙ ap (cond (is_name q s) (Some span)) (sym (named-append old rest q))

dropped : (b : Bool) (found rest : Option PlainSpan) → or_else (cond b None found) (cond b None rest) ≡ cond b None (or_else found rest)
dropped true found rest = refl
dropped false found rest = refl

-- a name that neither has any more
pub drops_both : (old new rest more : NamedSpans) (s : List ℕ) → DropsSpan old s new → DropsSpan rest s more → DropsSpan (old ++ rest) s (new ++ more)
drops_both old new rest more s gone also = λ q. named-append new more q ∙ ap (λ (o : Option PlainSpan). or_else o (named more q)) (gone q)
    ∙ ap (or_else (cond (is_name q s) None (named old q))) (also q) ∙ dropped (is_name q s) (named old q) (named rest q)
    ∙ ap (cond (is_name q s) None) (sym (named-append old rest q))

-- whether one of them has a name
either_some : (found rest : Option PlainSpan) → (is_some found || is_some rest) ≡ is_some (or_else found rest)
either_some None rest = refl
either_some (Some span) rest = refl

pub is_in_either : (spans rest : NamedSpans) (s : List ℕ) → (is_some (named spans s) || is_some (named rest s)) ≡ is_some (named (spans ++ rest) s)
is_in_either spans rest s = either_some (named spans s) (named rest s) ∙ ap is_some (sym (named-append spans rest s))

-- whether the span of a name records: the first one does
first_records : (found rest : Option PlainSpan) → records found ≡ true → records (or_else found rest) ≡ true
first_records None rest is = cc
first_records (Some span) rest is = is

pub records_before : (spans rest : NamedSpans) (s : List ℕ) → records (named spans s) ≡ true → records (named (spans ++ rest) s) ≡ true
records_before spans rest s is = ap records (named-append spans rest s) ∙ first_records (named spans s) (named rest s) is

neither_records : (found rest : Option PlainSpan) → records found ≡ false → records rest ≡ false → records (or_else found rest) ≡ false
neither_records None rest none over = over
neither_records (Some span) rest none over = none

-- what is kept of spans that are over, by name
kept_first : (b : Bool) (kept : EndedIdentity) (found : Option PlainSpan) (more : Option EndedIdentity) → found ≡ option_map ended_span more
    → cond b (Some (ended_span kept)) found ≡ option_map ended_span (cond b (Some kept) more)
kept_first true kept found more e = refl
kept_first false kept found more e = e

finished-lookup : {Y : Type 0} (entries : List (String Y × EndedIdentity)) (q : List ℕ) → named (finished_by_name entries) q ≡ option_map ended_span (lookup (is_at (λ k. slice_cmp nat_cmp q (string_bytes k))) entries)
finished-lookup [] q = refl
finished-lookup (entry ∷ entries) q = kept_first (is_name q (string_bytes entry.0)) entry.1 (named (finished_by_name entries) q) _ (finished-lookup entries q)

pub named-finished : {Y : Type 0} (m : BTreeMap (String Y) EndedIdentity) (q : List ℕ) → named (finished_by_name m.entries) q ≡ option_map ended_span (get_by_text m q)
named-finished m q = finished-lookup m.entries q

some_kept : (kept : Option EndedIdentity) → is_some (option_map ended_span kept) ≡ is_some kept
some_kept None = refl
some_kept (Some kept) = refl

pub is_kept : {Y : Type 0} (m : BTreeMap (String Y) EndedIdentity) (s : List ℕ) → is_some (named (finished_by_name m.entries) s) ≡ is_some (get_by_text m s)
is_kept m s = ap is_some (named-finished m s) ∙ some_kept (get_by_text m s)

-- by whether there is one
pub kept_there : (kept : Option EndedIdentity) (found : Option PlainSpan) → found ≡ option_map ended_span kept → is_some kept ≡ true → (span : PlainSpan) × (found ≡ Some span)
kept_there None found e some = cc
kept_there (Some kept) found e some = (ended_span kept, e)

pub kept_nowhere : (kept : Option EndedIdentity) (found : Option PlainSpan) → found ≡ option_map ended_span kept → is_some kept ≡ false → found ≡ None
kept_nowhere None found e none = e
kept_nowhere (Some kept) found e none = cc

pub puts_kept : {Y : Type 0} (m n : BTreeMap (String Y) EndedIdentity) (s : List ℕ) (kept : EndedIdentity) → UpdatesBy string_cmp (λ k. slice_cmp nat_cmp s (string_bytes k)) m n (Some kept)
    → PutsSpan (finished_by_name m.entries) s (ended_span kept) (finished_by_name n.entries)
puts_kept m n s kept h = λ q. named-finished n q
    ∙ ap (option_map ended_span) (btree_map_updates_text s m n (Some kept) h q
    ∙ ap (λ (b : Bool). cond b (Some kept) (get_by_text m q)) (sym (is_eq-slice_cmp s q) ∙ (eq_by_cmp_equiv nat_list_cmp_total).symm s q))
    ∙ sym (kept_first (is_name q s) kept (named (finished_by_name m.entries) q) (get_by_text m q) (named-finished m q))

dropped_kept : (b : Bool) (found : Option PlainSpan) (more : Option EndedIdentity) → found ≡ option_map ended_span more → cond b None found ≡ option_map ended_span (cond b None more)
dropped_kept true found more e = refl
dropped_kept false found more e = e

pub drops_kept : {Y : Type 0} (m n : BTreeMap (String Y) EndedIdentity) (s : List ℕ) → UpdatesBy string_cmp (λ k. slice_cmp nat_cmp s (string_bytes k)) m n None → DropsSpan (finished_by_name m.entries) s (finished_by_name n.entries)
drops_kept m n s h = λ q. named-finished n q
    ∙ ap (option_map ended_span) (btree_map_updates_text s m n None h q
    ∙ ap (λ (b : Bool). cond b None (get_by_text m q)) (sym (is_eq-slice_cmp s q) ∙ (eq_by_cmp_equiv nat_list_cmp_total).symm s q))
    ∙ sym (dropped_kept (is_name q s) (named (finished_by_name m.entries) q) (get_by_text m q) (named-finished m q))

-- what is over records nothing
over_records : (kept : Option EndedIdentity) → records (option_map ended_span kept) ≡ false
over_records None = refl
over_records (Some kept) = refl

pub records_nowhere : {Y : Type 0} (spans : NamedSpans) (m : BTreeMap (String Y) EndedIdentity) (s : List ℕ) → records (named spans s) ≡ false → records (named (spans ++ finished_by_name m.entries) s) ≡ false
records_nowhere spans m s none = ap records (named-append spans (finished_by_name m.entries) s)
    ∙ neither_records (named spans s) (named (finished_by_name m.entries) s) none (ap records (named-finished m s) ∙ over_records (get_by_text m s))

-- entries that stay
pub same_kept : {Y : Type 0} (old new : List (String Y × EndedIdentity)) → new ≡ old → SameSpans (finished_by_name old) (finished_by_name new)
same_kept {Y} old new h = λ q. ap (λ (entries : List (String Y × EndedIdentity)). named (finished_by_name entries) q) h

-- an edit of an open span, among those that are over
pub edits_open : (old new rest : NamedSpans) (s : List ℕ) (edit : Edit) (found : PlainSpan) (answer : Answer) → named old s ≡ Some found → answer ≡ said (Some found) → PutsSpan old s (edited edit found) new → Edits (old ++ rest) s edit answer (new ++ rest)
edits_open old new rest s edit found answer there says put = edits_there (old ++ rest) (new ++ rest) s edit found answer (there_before old rest s found there) says (puts_before old new rest s (edited edit found) put)

-- what is said of a span that is over or was never
abbrev pub late : Option PlainSpan → Answer
late found = if is_some found then answers.Ignored else answers.NoSuchSpan

-- an edit of one, and its end
pub edits_late : (old new : NamedSpans) (s : List ℕ) (edit : Edit) (kept : Option EndedIdentity) (answer : Answer) → named old s ≡ option_map ended_span kept → answer ≡ late (option_map ended_span kept) → SameSpans old new → Edits old s edit answer new
edits_late old new s edit None answer there says same = subst (λ (a : Answer). Edits old s edit a new) (sym says) (edits_absent old new s edit there same)
edits_late old new s edit (Some kept) answer there says same = edits_there old new s edit (ended_span kept) answer there says (same_puts old new s (ended_span kept) there same)

pub ends_late : {P S G : Type 0} (processor : Ghosts P) (p : ProviderState P S G) (old new : NamedSpans) (s : List ℕ) (moment : ℕ) (kept : Option EndedIdentity) (answer : Answer) → named old s ≡ option_map ended_span kept
    → answer ≡ late (option_map ended_span kept) → SameSpans old new → TurnsFromAny (EndsNamed processor s moment) p old answer p new
ends_late processor p old new s moment None answer there says same =
    subst (λ (a : Answer). TurnsFromAny (EndsNamed processor s moment) p old a p new) (sym says) (ends_absent processor p old new s moment there same)
ends_late processor p old new s moment (Some kept) answer there says same = ends_there processor p p old new s moment (ended_span kept) answer there (record {
  refused = 0;
  delivers = (refl, refl);
  says = says;
  put = same_puts old new s (ended_span kept) there same;
  rest = refl;
})
