-- Nothing follows a shutdown of the batch queue.
use Rattle.std.specs.Prelude.{◌≡◌, ℕ, suc, true, take, drop, List, [], Some, slice_get}
use Rattle.otel_batch.specs.MachineState.{Machine}
use Rattle.otel_batch.specs.MachineRun.{Run, batch_sizes}
use Rattle.otel_batch.specs.declared.machine.step.Outcome.{Outcome}
use Rattle.otel_batch.specs.declared.machine.step.Outcome.TheVariants as outcome
use Rattle.otel_batch.specs.declared.machine.step.Step.{Step}
use Rattle.otel_export.specs.declared.trace.export.SpanExporter.{Ghosts}

-- along a run with these outcomes the machine stayed closed, no batch was handed over, and the exporter and the spans
-- that wait or are in hand are the same
pub record StaysSilent {E : Type 0} (s : Machine E) (os : List Outcome) (t : Machine E) : Type 0 where
  pub exporter : t.exporter ≡ s.exporter
  pub hand : t.hand ≡ s.hand
  pub waiting : t.waiting ≡ s.waiting
  pub closed : t.control.closed ≡ true
  pub no_batch : batch_sizes os ≡ []

module _ {E : Type 0} (calls : Ghosts E) where
  -- the n-th step of a run completed a shutdown: it changed nothing that the exporter tells, and after it no batch was
  -- handed over, and the exporter and the spans that wait or are in hand are the same to the end
  pub record IsSilentAfter (n : ℕ) (s : Machine E) (xs : List Step) (os : List Outcome) (t : Machine E) : Type 0 where
    -- the machine before that step, and after it
    pub before : Machine E
    pub shut : Machine E
    pub up_to : Run calls s (take n xs) (take n os) before
    pub closes : Run calls before (take 1 (drop n xs)) (take 1 (drop n os)) shut
    pub after : Run calls shut (drop (suc n) xs) (drop (suc n) os) t
    pub told : calls.told shut.exporter ≡ calls.told before.exporter
    pub exporter : t.exporter ≡ shut.exporter
    pub hand : t.hand ≡ shut.hand
    pub waiting : t.waiting ≡ shut.waiting
    pub no_batch : batch_sizes (drop (suc n) os) ≡ []

  -- so it is after every step that completed a shutdown
  abbrev pub SilentAfterShutdown : Machine E → List Step → List Outcome → Machine E → Type 0
  SilentAfterShutdown s xs os t =
      (n k : ℕ) → slice_get os n ≡ Some (outcome.ShutDown k) → IsSilentAfter n s xs os t
