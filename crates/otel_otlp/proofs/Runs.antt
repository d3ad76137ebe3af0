-- The first run of a batch is what a walk from its first span finds.
use Rattle.std.proofs.Common.{◌≡◌, ◌≢◌, ◌<◌, ◌≤◌, ℕ, zero, suc, Bool, true, false, List, [], ◌∷◌, length, take, drop}
use Rattle.std.proofs.Common.{get_or, ap, sym, subst, refl, ◌∙◌, arith}
use Rattle.opentelemetry.specs.SameParts.{same_scope, same_scope_decides}
use Rattle.otel_export.specs.PlainSpanData.{PlainSpanData}
use Rattle.otel_otlp.specs.ScopeRuns.{in_front, scope_runs}

-- a span of the next one's scope joins its run
joins : (span next : PlainSpanData) (run : List PlainSpanData) (runs : List (List PlainSpanData))
    → next.instrumentation_scope ≡ span.instrumentation_scope
    → in_front span ((next ∷ run) ∷ runs) ≡ (span ∷ next ∷ run) ∷ runs
joins span next run runs e =
    rw ((same_scope_decides span.instrumentation_scope next.instrumentation_scope).1 (sym e)) refl

-- what is not true is false
not_true : (b : Bool) → (b ≡ true → ⊥) → b ≡ false
not_true true h = absurd (h refl)
not_true false h = refl

-- one of another scope does not
alone_before : (span next : PlainSpanData) (run : List PlainSpanData) (runs : List (List PlainSpanData))
    → next.instrumentation_scope ≢ span.instrumentation_scope
    → in_front span ((next ∷ run) ∷ runs) ≡ (span ∷ []) ∷ (next ∷ run) ∷ runs
alone_before span next run runs e =
    let other : same_scope span.instrumentation_scope next.instrumentation_scope ≡ false =
    not_true _ (λ same. e (sym ((same_scope_decides span.instrumentation_scope next.instrumentation_scope).0 same))) in
    rw other refl

-- a span in front begins the first run
record Begins (span : PlainSpanData) (runs : List (List PlainSpanData)) : Type 0 where
  run : List PlainSpanData
  rest : List (List PlainSpanData)
  is : in_front span runs ≡ (span ∷ run) ∷ rest

begins_by : (span next : PlainSpanData) (run : List PlainSpanData) (runs : List (List PlainSpanData)) (same : Bool)
    → same_scope span.instrumentation_scope next.instrumentation_scope ≡ same → Begins span ((next ∷ run) ∷ runs)
begins_by span next run runs true e = record { run = next ∷ run; rest = runs; is = rw e refl }
begins_by span next run runs false e = record { run = []; rest = (next ∷ run) ∷ runs; is = rw e refl }

begins : (span : PlainSpanData) (runs : List (List PlainSpanData)) → Begins span runs
begins span [] = record { run = []; rest = []; is = refl }
begins span ([] ∷ runs) = record { run = []; rest = runs; is = refl }
begins span ((next ∷ run) ∷ runs) = begins_by span next run runs _ refl

stands_alone : (span next : PlainSpanData) (runs : List (List PlainSpanData))
    → next.instrumentation_scope ≢ span.instrumentation_scope
    → in_front span (in_front next runs) ≡ (span ∷ []) ∷ in_front next runs
stands_alone span next runs e =
    let cut = begins next runs in
    subst (λ (all : List (List PlainSpanData)). in_front span all ≡ (span ∷ []) ∷ all) (sym cut.is)
    (alone_before span next cut.run cut.rest e)

pub first_run : (span other : PlainSpanData) (spans : List PlainSpanData) (count : ℕ) → count ≤ length spans
    → ((k : ℕ) → k < count → (get_or spans k other).instrumentation_scope ≡ span.instrumentation_scope)
    → (count < length spans → (get_or spans count other).instrumentation_scope ≢ span.instrumentation_scope)
    → scope_runs (span ∷ spans) ≡ (span ∷ take count spans) ∷ scope_runs (drop count spans)
first_run span other [] zero l same ends = refl
first_run span other [] (suc count) l same ends = absurd (omega arith)
first_run span other (next ∷ spans) zero l same ends = stands_alone span next (scope_runs spans) (ends (omega arith))
first_run span other (next ∷ spans) (suc count) l same ends =
    let joined : next.instrumentation_scope ≡ span.instrumentation_scope = same 0 (omega arith) in
    ap (in_front span) (first_run next other spans count (omega arith)
    (λ k m. same (suc k) (omega arith) ∙ sym joined)
    (λ m e. ends (omega arith) (e ∙ joined)))
    ∙ joins span next (take count spans) (scope_runs (drop count spans)) joined
