-- A batch cut into its longest runs of neighbours that one scope made.
use Rattle.std.specs.Prelude.{◌≡◌, ◌≢◌, List, [], ◌∷◌, if◌then◌else◌, ⊤}
use Rattle.std.specs.List.{AllByRecursion}
use Rattle.opentelemetry.specs.Plain.{PlainScope, scope_named}
use Rattle.opentelemetry.specs.SameParts.{same_scope}
use Rattle.otel_export.specs.PlainSpanData.{PlainSpanData}

-- a span in front of runs: it joins the first one where that has its scope, and else is a run by itself
abbrev pub in_front : PlainSpanData → List (List PlainSpanData) → List (List PlainSpanData)
in_front span [] = (span ∷ []) ∷ []
in_front span ([] ∷ runs) = (span ∷ []) ∷ runs
in_front span ((next ∷ run) ∷ runs) =
    if same_scope span.instrumentation_scope next.instrumentation_scope then (span ∷ next ∷ run) ∷ runs
    else (span ∷ []) ∷ (next ∷ run) ∷ runs

-- the runs of a batch, in order
abbrev pub scope_runs : List PlainSpanData → List (List PlainSpanData)
scope_runs [] = []
scope_runs (span ∷ spans) = in_front span (scope_runs spans)

-- the scope of the first span of a run, which is that of each
abbrev pub run_scope : List PlainSpanData → PlainScope
run_scope [] = scope_named []
run_scope (span ∷ spans) = span.instrumentation_scope

-- a run has a first span, and each other one has the scope of that
abbrev pub IsRun : List PlainSpanData → Type 0
IsRun [] = ⊥
IsRun (span ∷ spans) = AllByRecursion (λ other. other.instrumentation_scope ≡ span.instrumentation_scope) spans

-- no two neighbours among runs have one scope
abbrev pub ScopesChange : List (List PlainSpanData) → Type 0
ScopesChange [] = ⊤
ScopesChange (run ∷ []) = ⊤
ScopesChange (run ∷ next ∷ runs) = (run_scope run ≢ run_scope next) × ScopesChange (next ∷ runs)
