-- Drains of the batch queue, from the step that loaded one to the next that finished: what a flush needs in order to
-- return, and to be right.
use Rattle.std.specs.Prelude.{◌≡◌, ℕ, suc, ◌+◌, ◌*◌, ◌<◌, ◌≤◌, ◌==◌, ◌&&◌, Bool, true, false, take, drop, sum, length}
use Rattle.std.specs.Prelude.{map, List, [], ◌∷◌, ◌++◌, Some, slice_get, nat_le, if◌then◌else◌}
use Rattle.otel_export.specs.PlainSpanData.{PlainSpanData, spans_in}
use Rattle.otel_export.specs.Telling.{Tells}
use Rattle.otel_batch.specs.MachineState.{Machine, Control}
use Rattle.otel_batch.specs.GoingOn.{is_enabled}
use Rattle.otel_batch.specs.MachineRun.{Run, accepted, holds_at, batch_sizes}
use Rattle.otel_batch.specs.declared.machine.step.Outcome.{Outcome}
use Rattle.otel_batch.specs.declared.machine.step.Outcome.TheVariants as outcome
use Rattle.otel_batch.specs.declared.machine.step.Step.{Step}
use Rattle.otel_batch.specs.declared.machine.step.Step.TheVariants as step
use Rattle.otel_export.specs.declared.trace.export.SpanExporter.{Ghosts}

-- the step is one of the worker's
abbrev pub is_workers : Step → Bool
is_workers step.Take = true
is_workers step.Tick = true
is_workers step.Clear = true
is_workers step.Load = true
is_workers step.Pull = true
is_workers step.HandOver = true
is_workers step.Subtract = true
is_workers step.Finish = true
is_workers step.Close = true
is_workers _ = false

-- how many enabled steps the worker took
abbrev pub worker_steps : List Step → List Outcome → ℕ
worker_steps [] os = 0
worker_steps (x ∷ xs) [] = 0
worker_steps (x ∷ xs) (o ∷ os) = (if is_workers x && is_enabled o then 1 else 0) + worker_steps xs os

-- the outcomes after a load, up to the first that finished, of which none found no memory
abbrev pub IsWholeDrain : List Outcome → Type 0
IsWholeDrain [] = ⊥
IsWholeDrain (outcome.Finished e ∷ []) = Unit {0}
IsWholeDrain (outcome.Finished e ∷ (o ∷ os)) = ⊥
IsWholeDrain (outcome.NoMemory ∷ os) = ⊥
IsWholeDrain (_ ∷ os) = IsWholeDrain os

-- all of the steps are the worker's
abbrev pub AreWorkers : List Step → Type 0
AreWorkers [] = Unit {0}
AreWorkers (x ∷ xs) = (is_workers x ≡ true) × AreWorkers xs

-- none of the outcomes finished a drain
abbrev pub NoneFinishes : List Outcome → Type 0
NoneFinishes [] = Unit {0}
NoneFinishes (outcome.Finished e ∷ os) = ⊥
NoneFinishes (_ ∷ os) = NoneFinishes os

-- no batch is empty, and none has more spans than this
abbrev pub FitBatches : ℕ → List ℕ → Type 0
FitBatches most [] = Unit {0}
FitBatches most (k ∷ ks) = (0 < k) × (k ≤ most) × FitBatches most ks

-- the most spans that a batch may have: the size of a batch, or all that the queue can hold where that is zero
abbrev pub largest_batch : Control → ℕ
largest_batch c = if c.batch_size == 0 then c.queue_size else c.batch_size

-- as many spans wait as a batch may have
abbrev pub has_full_batch : {E : Type 0} → Machine E → Bool
has_full_batch m = nat_le (largest_batch m.control) (length m.waiting)

-- how many more steps than four a span a drain may take: none, or one for each place of the queue where a batch takes all
-- that waits
abbrev pub more_steps : Control → ℕ
more_steps c = if c.batch_size == 0 then c.queue_size else 0

-- after a load of this target, before its drain has finished: the worker took at most four enabled steps a span; and
-- with a size of batches it handed over at most the target
pub record IsBounded (c : Control) (target : ℕ) (xs : List Step) (os : List Outcome) : Type 0 where
  pub steps : worker_steps xs os ≤ 4 * target + more_steps c
  pub handed : 0 < c.batch_size → sum (batch_sizes os) ≤ target

-- so it is after every load of a run from this control on
abbrev pub BoundsDrains : Control → List Step → List Outcome → Type 0
BoundsDrains c xs os =
    (n m target : ℕ) → slice_get os n ≡ Some (outcome.Loaded target) → NoneFinishes (take m (drop (suc n) os)) →
    IsBounded c target (take m (drop (suc n) xs)) (take m (drop (suc n) os))

-- no span waits or is in hand
pub record IsEmptied {E : Type 0} (t : Machine E) : Type 0 where
  pub hand : t.hand ≡ []
  pub waiting : t.waiting ≡ []

module _ {E : Type 0} (calls : Ghosts E) where
  -- between two machines batches of these sizes were handed over, which begin with these spans
  pub record HandsOverFirst (s : Machine E) (spans : List PlainSpanData) (sizes : List ℕ) (t : Machine E)
      : Type 0 where
    pub batches : List (List PlainSpanData)
    pub sized : map length batches ≡ sizes
    pub told : Tells (calls.told s.exporter) batches (calls.told t.exporter)
    pub rest : List PlainSpanData
    pub begins : spans_in batches ≡ spans ++ rest

  -- the n-th step of a run loaded a drain, and the m steps after it are up to its finish
  pub record CompletesDrain (n m : ℕ) (s : Machine E) (xs : List Step) (os : List Outcome) (t : Machine E)
      : Type 0 where
    -- the machine after the load, and after the finish
    pub load : Machine E
    pub finish : Machine E
    pub up_to : Run calls s (take (suc n) xs) (take (suc n) os) load
    pub drain : Run calls load (take m (drop (suc n) xs)) (take m (drop (suc n) os)) finish
    pub after : Run calls finish (drop m (drop (suc n) xs)) (drop m (drop (suc n) os)) t
    -- all that waited at the load was handed over in the drain, before anything else
    pub waited : HandsOverFirst load load.waiting (batch_sizes (take m (drop (suc n) os))) finish
    -- what was in hand or waited at the start of the run, and what it accepted before the load, was handed over by the
    -- finish, before anything else
    pub earlier : HandsOverFirst s
        ((s.hand ++ s.waiting) ++ accepted (holds_at s.control.slots) (take (suc n) xs) (take (suc n) os))
        (batch_sizes (take (suc n) os) ++ batch_sizes (take m (drop (suc n) os))) finish
    -- so these are at most as many as the batches up to the finish had
    pub handed : length s.hand + length s.waiting
        + length (accepted (holds_at s.control.slots) (take (suc n) xs) (take (suc n) os))
        ≤ sum (batch_sizes (take (suc n) os) ++ batch_sizes (take m (drop (suc n) os)))
    -- where all steps of the drain were the worker's, nothing is left after it
    pub alone : AreWorkers (take m (drop (suc n) xs)) → IsEmptied finish

  -- every finished drain of a run that found memory is complete
  abbrev pub CompletesDrains : Machine E → List Step → List Outcome → Machine E → Type 0
  CompletesDrains s xs os t =
      (n m target : ℕ) → slice_get os n ≡ Some (outcome.Loaded target) → IsWholeDrain (take m (drop (suc n) os)) →
      CompletesDrain n m s xs os t
