-- The last run of a batch is what a walk from its last span finds.
use Rattle.std.proofs.Common.{◌≡◌, ◌≢◌, ◌+◌, ◌-◌, ◌<◌, ◌≤◌, ℕ, zero, suc, Bool, true, false, cond, List, [], ◌∷◌, ◌++◌, length, take}
use Rattle.std.proofs.Common.{drop, get_or, ap, sym, subst, refl, ◌∙◌, add-one, append_assoc, arith, take-append-drop}
use Rattle.std.proofs.lemmas.List.{take_more}
use Rattle.std.specs.List.{AllByRecursion}
use Rattle.opentelemetry.specs.SameParts.{same_scope, same_scope_decides}
use Rattle.otel_export.specs.PlainSpanData.{PlainSpanData}
use Rattle.otel_otlp.specs.ScopeRuns.{in_front, run_scope, scope_runs}

-- spans of the scope of this one
abbrev pub AreOf : PlainSpanData → List PlainSpanData → Type 0
AreOf last xs = AllByRecursion (λ x. x.instrumentation_scope ≡ last.instrumentation_scope) xs

-- a span of the next one's scope joins its run
joins : (span next : PlainSpanData) (run : List PlainSpanData) (runs : List (List PlainSpanData))
    → span.instrumentation_scope ≡ next.instrumentation_scope
    → in_front span ((next ∷ run) ∷ runs) ≡ (span ∷ next ∷ run) ∷ runs
joins span next run runs e =
    rw ((same_scope_decides span.instrumentation_scope next.instrumentation_scope).1 e) refl

-- what is not true is false
not_true : (b : Bool) → (b ≡ true → ⊥) → b ≡ false
not_true true h = absurd (h refl)
not_true false h = refl

-- one of another scope does not
stands_alone : (span next : PlainSpanData) (run : List PlainSpanData) (runs : List (List PlainSpanData))
    → span.instrumentation_scope ≢ next.instrumentation_scope
    → in_front span ((next ∷ run) ∷ runs) ≡ (span ∷ []) ∷ (next ∷ run) ∷ runs
stands_alone span next run runs e =
    let other : same_scope span.instrumentation_scope next.instrumentation_scope ≡ false =
    not_true _ (λ same. e ((same_scope_decides span.instrumentation_scope next.instrumentation_scope).0 same)) in
    rw other refl

-- spans of one scope are one run
one_run : (xs : List PlainSpanData) (last : PlainSpanData) → AreOf last xs
    → scope_runs (xs ++ last ∷ []) ≡ (xs ++ last ∷ []) ∷ []
one_run [] last all = refl
one_run (x ∷ []) last all = joins x last [] [] all.0
one_run (x ∷ y ∷ xs) last all =
    ap (in_front x) (one_run (y ∷ xs) last all.1) ∙ joins x y (xs ++ last ∷ []) [] (all.0 ∙ sym all.1.0)

-- a span of another scope stands before the run
apart : (span : PlainSpanData) (xs : List PlainSpanData) (last : PlainSpanData) → AreOf last xs
    → span.instrumentation_scope ≢ last.instrumentation_scope
    → in_front span ((xs ++ last ∷ []) ∷ []) ≡ (span ∷ []) ∷ (xs ++ last ∷ []) ∷ []
apart span [] last all e = stands_alone span last [] [] e
apart span (x ∷ xs) last all e = stands_alone span x (xs ++ last ∷ []) [] (λ same. e (same ∙ all.0))

-- what stands after the runs that a span joins stays after them
chosen_joined : (same : Bool) (a b others : List (List PlainSpanData))
    → cond same (a ++ others) (b ++ others) ≡ cond same a b ++ others
chosen_joined true a b others = refl
chosen_joined false a b others = refl

front_joined : (span next : PlainSpanData) (run : List PlainSpanData) (runs others : List (List PlainSpanData))
    → in_front span (((next ∷ run) ∷ runs) ++ others) ≡ in_front span ((next ∷ run) ∷ runs) ++ others
front_joined span next run runs others =
    chosen_joined (same_scope span.instrumentation_scope next.instrumentation_scope) ((span ∷ next ∷ run) ∷ runs)
    ((span ∷ []) ∷ (next ∷ run) ∷ runs) others

-- a span in front begins the first run
record Begins (span : PlainSpanData) (runs : List (List PlainSpanData)) : Type 0 where
  run : List PlainSpanData
  rest : List (List PlainSpanData)
  is : in_front span runs ≡ (span ∷ run) ∷ rest

begins_by : (span next : PlainSpanData) (run : List PlainSpanData) (runs : List (List PlainSpanData)) (same : Bool)
    → same_scope span.instrumentation_scope next.instrumentation_scope ≡ same → Begins span ((next ∷ run) ∷ runs)
begins_by span next run runs true e = record { run = next ∷ run; rest = runs; is = rw e refl }
begins_by span next run runs false e = record { run = []; rest = (next ∷ run) ∷ runs; is = rw e refl }

begins : (span : PlainSpanData) (runs : List (List PlainSpanData)) → Begins span runs
begins span [] = record { run = []; rest = []; is = refl }
begins span ([] ∷ runs) = record { run = []; rest = runs; is = refl }
begins span ((next ∷ run) ∷ runs) = begins_by span next run runs _ refl

two_joined : (span next : PlainSpanData) (runs others : List (List PlainSpanData))
    → in_front span (in_front next runs ++ others) ≡ in_front span (in_front next runs) ++ others
two_joined span next runs others =
    let cut = begins next runs in
    subst (λ (all : List (List PlainSpanData)). in_front span (all ++ others) ≡ in_front span all ++ others)
    (sym cut.is) (front_joined span next cut.run cut.rest others)

-- spans, of which the last one is of another scope, before a run
cut_after : (front : List PlainSpanData) (span : PlainSpanData) (xs : List PlainSpanData) (last : PlainSpanData)
    → AreOf last xs → span.instrumentation_scope ≢ last.instrumentation_scope
    → scope_runs ((front ++ span ∷ []) ++ (xs ++ last ∷ []))
    ≡ scope_runs (front ++ span ∷ []) ++ (xs ++ last ∷ []) ∷ []
cut_after [] span xs last all e = ap (in_front span) (one_run xs last all) ∙ apart span xs last all e
cut_after (first ∷ []) span xs last all e =
    ap (in_front first) (cut_after [] span xs last all e) ∙ two_joined first span [] ((xs ++ last ∷ []) ∷ [])
cut_after (first ∷ next ∷ front) span xs last all e =
    ap (in_front first) (cut_after (next ∷ front) span xs last all e)
    ∙ two_joined first next (scope_runs (front ++ span ∷ [])) ((xs ++ last ∷ []) ∷ [])

-- where the walk from the last span stops
pub last_run : (before : List PlainSpanData) (last : PlainSpanData) (begin : ℕ) → begin ≤ length before
    → AreOf last (drop begin before)
    → (0 < begin → (get_or before (begin - 1) last).instrumentation_scope ≢ last.instrumentation_scope)
    → scope_runs (before ++ last ∷ [])
    ≡ scope_runs (take begin before) ++ (drop begin before ++ last ∷ []) ∷ []
last_run before last zero l all ends = one_run before last all
last_run before last (suc begin) l all ends =
    let one_less : suc begin - 1 ≡ begin = omega arith in
    let run = drop (suc begin) before ++ last ∷ [] in
    let taken : take (suc begin) before ≡ take begin before ++ get_or before begin last ∷ [] =
    ap (λ n. take n before) (sym (add-one begin)) ∙ take_more before begin last (omega arith) in
    let whole : before ++ last ∷ [] ≡ take (suc begin) before ++ run =
    ap (λ (xs : List PlainSpanData). xs ++ last ∷ []) (sym (take-append-drop (suc begin) before))
    ∙ append_assoc (take (suc begin) before) (drop (suc begin) before) (last ∷ []) in
    ap scope_runs whole
    ∙ subst (λ (front : List PlainSpanData). scope_runs (front ++ run) ≡ scope_runs front ++ run ∷ []) (sym taken)
    (cut_after (take begin before) (get_or before begin last) (drop (suc begin) before) last all
    (subst (λ n. (get_or before n last).instrumentation_scope ≢ last.instrumentation_scope) one_less
    (ends (omega arith))))

-- its scope is the last one's
pub scope_of_last : (xs : List PlainSpanData) (last : PlainSpanData) → AreOf last xs
    → run_scope (xs ++ last ∷ []) ≡ last.instrumentation_scope
scope_of_last [] last all = refl
scope_of_last (x ∷ xs) last all = all.0
