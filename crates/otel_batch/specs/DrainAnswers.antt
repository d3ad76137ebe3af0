-- What a finished drain of the batch queue answers, by its outcomes alone.
use Rattle.std.specs.Prelude.{◌≡◌, ℕ, suc, Bool, true, false, take, drop, List, [], ◌∷◌, Option, Some, None, Result}
use Rattle.std.specs.Prelude.{Err, slice_get}
use Rattle.std.specs.Result.{result_err}
use Rattle.otel_export.specs.declared.error.OTelSdkError.{OTelSdkError}
use Rattle.otel_export.specs.declared.error.OTelSdkError.TheVariants.{OutOfMemory}
use Rattle.otel_batch.specs.MachineState.{Machine, Counts, counts, slot_at}
use Rattle.otel_batch.specs.DrainResult.{IsErrorOf}
use Rattle.otel_batch.specs.MachineRun.{Run}
use Rattle.otel_batch.specs.Drains.{NoneFinishes}
use Rattle.otel_batch.specs.declared.machine.state.Slot.TheVariants as slot
use Rattle.otel_batch.specs.declared.machine.state.Why.{Why}
use Rattle.otel_batch.specs.declared.machine.state.Why.TheVariants as why
use Rattle.otel_batch.specs.declared.machine.state.Worker.TheVariants as worker
use Rattle.otel_batch.specs.declared.machine.step.Outcome.{Outcome}
use Rattle.otel_batch.specs.declared.machine.step.Outcome.TheVariants as outcome
use Rattle.otel_batch.specs.declared.machine.step.Step.{Step}
use Rattle.otel_export.specs.declared.trace.export.SpanExporter.{Ghosts}

-- the first of two errors
abbrev pub first_error : (before error : Option OTelSdkError) → Option OTelSdkError
first_error None error = error
first_error (Some e) error = Some e

-- the error of a drain after one more outcome
abbrev pub error_after : Option OTelSdkError → Outcome → Option OTelSdkError
error_after before (outcome.HandedOver k error) = first_error before error
error_after before outcome.NoMemory = first_error before (Some OutOfMemory)
error_after before _ = before

-- the error of a drain after more outcomes
abbrev pub error_later : Option OTelSdkError → List Outcome → Option OTelSdkError
error_later before [] = before
error_later before (o ∷ os) = error_later (error_after before o) os

-- the error of a drain with these outcomes after its load: the first of those of the exporter's answers and that there
-- was no memory for a batch; else none
abbrev pub drain_error : List Outcome → Option OTelSdkError
drain_error os = error_later None os

-- the drain found no memory for a batch
abbrev pub finds_no_memory : List Outcome → Bool
finds_no_memory [] = false
finds_no_memory (outcome.NoMemory ∷ os) = true
finds_no_memory (_ ∷ os) = finds_no_memory os

-- who learns the answer of a drain with this reason by its finish, whose outcome had this error: where nobody waits,
-- the outcome has that of the answer; who waits for a flush has the answer; a shutdown goes on whatever it is, or where
-- there was no memory its producer has that for an answer, whatever failed before, and the machine stays open
abbrev pub GivesAnswer : Why → Bool → Result (Unit {0}) OTelSdkError → Option OTelSdkError → Counts → Type 0
GivesAnswer why.Asked refused answer e t = e ≡ result_err answer
GivesAnswer why.Timer refused answer e t = e ≡ result_err answer
GivesAnswer (why.Flush p) refused answer e t = (e ≡ None) × (slot_at t p ≡ Some (slot.Answered answer))
GivesAnswer (why.Shutdown p) true answer e t =
    (e ≡ None)
    × (slot_at t p ≡ Some (slot.Answered (Err OutOfMemory)))
    × (t.control.worker ≡ worker.Ready)
    × (t.control.closed ≡ false)
GivesAnswer (why.Shutdown p) false answer e t = (e ≡ None) × (t.control.worker ≡ worker.Closing p)

module _ {E : Type 0} (calls : Ghosts E) where
  -- the n-th step of a run loaded a drain, none of the m steps after it finished one, and the next finished it
  pub record AnswersDrain (n m : ℕ) (e : Option OTelSdkError) (s : Machine E) (xs : List Step) (os : List Outcome)
      (t : Machine E) : Type 0 where
    -- the machine after the load, before the finish, and after it
    pub load : Machine E
    pub before : Machine E
    pub finish : Machine E
    pub up_to : Run calls s (take (suc n) xs) (take (suc n) os) load
    pub drain : Run calls load (take m (drop (suc n) xs)) (take m (drop (suc n) os)) before
    pub ends : Run calls before (take 1 (drop m (drop (suc n) xs))) (take 1 (drop m (drop (suc n) os))) finish
    pub after : Run calls finish (drop (suc m) (drop (suc n) xs)) (drop (suc m) (drop (suc n) os)) t
    -- the worker's result before the finish is what the drain's outcomes say, but for the text of a failure
    pub held : IsErrorOf before.control.result (drain_error (take m (drop (suc n) os)))
    -- it is that result that is learnt
    pub given : GivesAnswer load.control.why (finds_no_memory (take m (drop (suc n) os))) before.control.result e
        (counts finish)

  -- every finished drain of a run answers so
  abbrev pub AnswersDrains : Machine E → List Step → List Outcome → Machine E → Type 0
  AnswersDrains s xs os t = (n m target : ℕ) (e : Option OTelSdkError) →
      slice_get os n ≡ Some (outcome.Loaded target) → NoneFinishes (take m (drop (suc n) os)) →
      slice_get (drop (suc n) os) m ≡ Some (outcome.Finished e) → AnswersDrain n m e s xs os t
