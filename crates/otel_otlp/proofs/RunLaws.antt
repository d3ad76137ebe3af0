-- The runs of a batch: joined they are it, each is of one scope, and neighbours are of different ones.
use Rattle.std.proofs.Common.{◌≡◌, Bool, true, false, cond, List, [], ◌∷◌, ap, sym, subst, refl, ◌∙◌}
use Rattle.std.proofs.lemmas.Bool.{false≢true}
use Rattle.std.specs.List.{AllByRecursion}
use Rattle.opentelemetry.specs.SameParts.{same_scope, same_scope_decides}
use Rattle.otel_export.specs.PlainSpanData.{PlainSpanData, spans_in}
use Rattle.otel_otlp.specs.ScopeRuns.{in_front, run_scope, scope_runs, IsRun, ScopesChange}

-- the span in front is the first one of all
front_joined : (span : PlainSpanData) (runs : List (List PlainSpanData))
    → spans_in (in_front span runs) ≡ span ∷ spans_in runs
front_joined span [] = refl
front_joined span ([] ∷ runs) = refl
front_joined span ((next ∷ run) ∷ runs) = by (same_scope span.instrumentation_scope next.instrumentation_scope)
  where
    by : (same : Bool)
        → spans_in (cond same ((span ∷ next ∷ run) ∷ runs) ((span ∷ []) ∷ (next ∷ run) ∷ runs))
        ≡ span ∷ spans_in ((next ∷ run) ∷ runs)
    by true = refl
    by false = refl

pub runs_joined : (batch : List PlainSpanData) → spans_in (scope_runs batch) ≡ batch
runs_joined [] = refl
runs_joined (span ∷ spans) = front_joined span (scope_runs spans) ∙ ap (λ rest. span ∷ rest) (runs_joined spans)

-- with a span in front, runs stay runs
front_run : (span : PlainSpanData) (runs : List (List PlainSpanData)) → AllByRecursion IsRun runs
    → AllByRecursion IsRun (in_front span runs)
front_run span [] h = (tt, tt)
front_run span ([] ∷ runs) h = absurd h.0
front_run span ((next ∷ run) ∷ runs) h =
    by (same_scope span.instrumentation_scope next.instrumentation_scope)
    (same_scope_decides span.instrumentation_scope next.instrumentation_scope).0
  where
    by : (same : Bool) → (same ≡ true → span.instrumentation_scope ≡ next.instrumentation_scope)
        → AllByRecursion IsRun (cond same ((span ∷ next ∷ run) ∷ runs) ((span ∷ []) ∷ (next ∷ run) ∷ runs))
    by true is =
        let one : next.instrumentation_scope ≡ span.instrumentation_scope = sym (is refl) in
        ((one, subst (λ scope. AllByRecursion (λ other. other.instrumentation_scope ≡ scope) run) one h.0), h.1)
    by false is = (tt, h)

pub runs_are_runs : (batch : List PlainSpanData) → AllByRecursion IsRun (scope_runs batch)
runs_are_runs [] = tt
runs_are_runs (span ∷ spans) = front_run span (scope_runs spans) (runs_are_runs spans)

-- a first run may give way to another one of its scope
same_front : (run other : List PlainSpanData) (runs : List (List PlainSpanData)) → run_scope other ≡ run_scope run
    → ScopesChange (run ∷ runs) → ScopesChange (other ∷ runs)
same_front run other [] e h = tt
same_front run other (next ∷ runs) e h = (λ same. h.0 (sym e ∙ same), h.1)

-- with a span in front, neighbours stay of different scopes
front_apart : (span : PlainSpanData) (runs : List (List PlainSpanData)) → AllByRecursion IsRun runs
    → ScopesChange runs → ScopesChange (in_front span runs)
front_apart span [] runs_are h = tt
front_apart span ([] ∷ runs) runs_are h = absurd runs_are.0
front_apart span ((next ∷ run) ∷ runs) runs_are h =
    by (same_scope span.instrumentation_scope next.instrumentation_scope)
    (same_scope_decides span.instrumentation_scope next.instrumentation_scope)
  where
    by : (same : Bool)
        → (same ≡ true → span.instrumentation_scope ≡ next.instrumentation_scope)
        × (span.instrumentation_scope ≡ next.instrumentation_scope → same ≡ true)
        → ScopesChange (cond same ((span ∷ next ∷ run) ∷ runs) ((span ∷ []) ∷ (next ∷ run) ∷ runs))
    by true is = same_front (next ∷ run) (span ∷ next ∷ run) runs (is.0 refl) h
    by false is = (λ same. false≢true (is.1 same), h)

pub runs_apart : (batch : List PlainSpanData) → ScopesChange (scope_runs batch)
runs_apart [] = tt
runs_apart (span ∷ spans) = front_apart span (scope_runs spans) (runs_are_runs spans) (runs_apart spans)
