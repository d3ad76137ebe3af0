-- How many spans a step hands over, and which steps leave a drain of the batch queue where it is.
use Rattle.std.proofs.Common.{◌≡◌, refl, ℕ, ◌+◌, ◌≤◌, ◌&&◌, Bool, true, false, List, [], ◌∷◌, if◌then◌else◌, arith, sum}
use Rattle.otel_batch.specs.Workers.{is_closing}
use Rattle.otel_batch.specs.MachineState.{Counts}
use Rattle.otel_batch.specs.WorkerSteps.{TakeRow, TickRow, ClearRow, LoadRow}
use Rattle.otel_batch.specs.DrainEnds.{CloseRow}
use Rattle.otel_batch.specs.MachineRun.{batch_sizes}
use Rattle.otel_batch.specs.GoingOn.{is_enabled}
use Rattle.otel_batch.specs.Drains.{is_workers, worker_steps, NoneFinishes}
use Rattle.otel_batch.specs.declared.machine.state.Worker.{Worker}
use Rattle.otel_batch.specs.declared.machine.state.Worker.TheVariants as worker
use Rattle.otel_batch.specs.declared.machine.step.Outcome.{Outcome}
use Rattle.otel_batch.specs.declared.machine.step.Outcome.TheVariants as outcome
use Rattle.otel_batch.specs.declared.machine.step.Step.{Step}
use Rattle.otel_batch.proofs.TableFacts.{is_producers, LeavesWorker}
use Rattle.otel_batch.proofs.Silence.{producers-no_batch}
use Rattle.otel_batch.proofs.NumberLemmas.{sum-cons}

-- how many spans a step hands over
abbrev pub handed : Outcome → ℕ
handed o = sum (batch_sizes (o ∷ []))

pub handed-rest : (o : Outcome) (os : List Outcome) → sum (batch_sizes (o ∷ os)) ≡ handed o + sum (batch_sizes os)
handed-rest (outcome.HandedOver k e) os = let first = sum-cons k (batch_sizes os) in omega (arith, first)
handed-rest _ os = omega arith

-- the worker is in a drain after its load
abbrev pub is_busy : Worker → Bool
is_busy worker.Pulling = true
is_busy worker.Handing = true
is_busy (worker.Subtracting k) = true
is_busy worker.Finishing = true
is_busy _ = false

closing_busy : (w : Worker) → is_closing w ≡ true → is_busy w ≡ true → ⊥
closing_busy (worker.Closing p) c b = cc
closing_busy worker.Ready c b = cc
closing_busy worker.Clearing c b = cc
closing_busy (worker.Loading y) c b = cc
closing_busy worker.Pulling c b = cc
closing_busy worker.Handing c b = cc
closing_busy (worker.Subtracting k) c b = cc
closing_busy worker.Finishing c b = cc
closing_busy worker.Gone c b = cc

-- while the worker is in a drain, its other steps are not enabled
pub take_busy : (s : Counts) (o : Outcome) (t : Counts) → is_busy s.control.worker ≡ true → TakeRow s o t →
    (o ≡ outcome.NotEnabled) × (t ≡ s)
take_busy s outcome.Nothing t busy row = absurd (let b : is_busy s.control.worker ≡ false = rw row.0 refl in cc)
take_busy s outcome.TookExport t busy row = absurd (let b : is_busy s.control.worker ≡ false = rw row.0 refl in cc)
take_busy s (outcome.TookFlush p) t busy row = absurd (let b : is_busy s.control.worker ≡ false = rw row.0 refl in cc)
take_busy s (outcome.TookShutdown p) t busy row =
    absurd (let b : is_busy s.control.worker ≡ false = rw row.0 refl in cc)
take_busy s outcome.TookResource t busy row = absurd (let b : is_busy s.control.worker ≡ false = rw row.0 refl in cc)
take_busy s outcome.NotEnabled t busy row = (refl, row.1)
take_busy s _ t busy row = absurd row

pub tick_busy : (s : Counts) (o : Outcome) (t : Counts) → is_busy s.control.worker ≡ true → TickRow s o t →
    (o ≡ outcome.NotEnabled) × (t ≡ s)
tick_busy s outcome.Ticked t busy row = absurd (let b : is_busy s.control.worker ≡ false = rw row.0 refl in cc)
tick_busy s outcome.NotEnabled t busy row = (refl, row.1)
tick_busy s _ t busy row = absurd row

pub clear_busy : (s : Counts) (o : Outcome) (t : Counts) → is_busy s.control.worker ≡ true → ClearRow s o t →
    (o ≡ outcome.NotEnabled) × (t ≡ s)
clear_busy s outcome.Cleared t busy row = absurd (let b : is_busy s.control.worker ≡ false = rw row.0 refl in cc)
clear_busy s outcome.NotEnabled t busy row = (refl, row.1)
clear_busy s _ t busy row = absurd row

pub load_busy : (s : Counts) (o : Outcome) (t : Counts) → is_busy s.control.worker ≡ true → LoadRow s o t →
    (o ≡ outcome.NotEnabled) × (t ≡ s)
load_busy s (outcome.Loaded n) t busy row = absurd (let b : is_busy s.control.worker ≡ false = rw row.1 refl in cc)
load_busy s outcome.NotEnabled t busy row = (refl, row.1)
load_busy s _ t busy row = absurd row

pub close_busy : (s : Counts) (o : Outcome) (t : Counts) → is_busy s.control.worker ≡ true → CloseRow s o t →
    (o ≡ outcome.NotEnabled) × (t ≡ s)
close_busy s (outcome.ShutDown n) t busy row = absurd (closing_busy s.control.worker row.0 busy)
close_busy s outcome.NotEnabled t busy row = (refl, row.1)
close_busy s _ t busy row = absurd row

-- a step that leaves the drain where it is
pub record StaysInDrain (x : Step) (o : Outcome) (s t : Counts) : Type 0 where
  pub quiet : batch_sizes (o ∷ []) ≡ []
  pub goes_on : NoneFinishes (o ∷ [])
  pub spares : o ≡ outcome.NoMemory → ⊥
  pub free : worker_steps (x ∷ []) (o ∷ []) ≡ 0
  pub worker_same : t.control.worker ≡ s.control.worker
  pub target_same : t.control.target ≡ s.control.target
  pub done_same : t.control.done ≡ s.control.done
  pub hand_same : t.hand ≡ s.hand
  pub waiting_more : s.waiting ≤ t.waiting

producers-go_on : (o : Outcome) → is_producers o ≡ true → NoneFinishes (o ∷ [])
producers-go_on (outcome.Finished e) is = cc
producers-go_on _ is = tt

producers-spare : (o : Outcome) → is_producers o ≡ true → o ≡ outcome.NoMemory → ⊥
producers-spare outcome.NoMemory is e = cc
producers-spare _ is e = cc

pub stays_alone : (x : Step) (o : Outcome) (s t : Counts) → is_workers x ≡ false → LeavesWorker o s t →
    StaysInDrain x o s t
stays_alone x o s t own a = record {
  quiet = producers-no_batch o a.producers;
  goes_on = producers-go_on o a.producers;
  spares = producers-spare o a.producers;
  free = rw own refl;
  worker_same = a.worker;
  target_same = a.target;
  done_same = a.done;
  hand_same = a.hand;
  waiting_more = a.waiting;
}

pub rests : (x : Step) (o : Outcome) (s t : Counts) → (o ≡ outcome.NotEnabled) × (t ≡ s) → StaysInDrain x o s t
rests x o s t (e, same) = rw (e, same) (record {
  quiet = refl;
  goes_on = tt;
  spares = λ f. cc;
  free = none (is_workers x);
  worker_same = refl;
  target_same = refl;
  done_same = refl;
  hand_same = refl;
  waiting_more = omega arith;
})
  where
    none : (b : Bool) → (if b && is_enabled outcome.NotEnabled then 1 else 0) + 0 ≡ 0
    none true = refl
    none false = refl
