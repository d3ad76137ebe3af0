-- The runs of a batch that fits fit.
use Rattle.std.proofs.Common.{List, [], ◌∷◌, sym, subst}
use Rattle.std.specs.List.{AllByRecursion}
use Rattle.otel_export.specs.PlainSpanData.{PlainSpanData, spans_in}
use Rattle.otel_otlp.specs.Fits.{AttributeFits, SpanFits}
use Rattle.otel_otlp.specs.ScopeRuns.{run_scope, scope_runs, IsRun}
use Rattle.otel_otlp.proofs.Fitting.{all_of_joined}
use Rattle.otel_otlp.proofs.RunLaws.{runs_are_runs, runs_joined}

-- a run whose spans fit
pub record RunFits (run : List PlainSpanData) : Type 0 where
  pub is_run : IsRun run
  pub fits : AllByRecursion SpanFits run

pub scope_fits : (run : List PlainSpanData) → RunFits run → AllByRecursion AttributeFits (run_scope run).attributes
scope_fits [] h = absurd h.is_run
scope_fits (span ∷ spans) h = h.fits.0.scope_attributes

runs_fit : (runs : List (List PlainSpanData)) → AllByRecursion IsRun runs → AllByRecursion SpanFits (spans_in runs)
    → AllByRecursion RunFits runs
runs_fit [] h k = tt
runs_fit (run ∷ runs) h k =
    let both = all_of_joined SpanFits run (spans_in runs) k in
    (record { is_run = h.0; fits = both.0 }, runs_fit runs h.1 both.1)

pub batch_runs_fit : (batch : List PlainSpanData) → AllByRecursion SpanFits batch
    → AllByRecursion RunFits (scope_runs batch)
batch_runs_fit batch h =
    runs_fit (scope_runs batch) (runs_are_runs batch) (subst (AllByRecursion SpanFits) (sym (runs_joined batch)) h)
