-- Runs of a batch queue in which nobody chooses: each step is the next one of the producer that has a span, or of the
-- worker, up to where there is none.
use Rattle.std.specs.Prelude.{◌≡◌, ◌&&◌, ◌||◌, ◌==◌, ℕ, Bool, true, false, List, [], ◌∷◌, Option, Some, None, Result}
use Rattle.std.specs.Prelude.{length, slice_get, replicate, if◌then◌else◌}
use Rattle.std.specs.Result.{result_err}
use Rattle.otel_export.specs.declared.error.OTelSdkError.{OTelSdkError}
use Rattle.otel_export.specs.PlainSpanData.{PlainSpanData}
use Rattle.otel_batch.specs.Slots.{is_answered}
use Rattle.otel_batch.specs.Workers.{is_ready, is_gone}
use Rattle.otel_batch.specs.MachineState.{Control, Machine}
use Rattle.otel_batch.specs.GoingOn.{next_step}
use Rattle.otel_batch.specs.MachineRun.{Run, IsStep}
use Rattle.otel_batch.specs.DrainAnswers.{error_after}
use Rattle.otel_batch.specs.declared.machine.state.Slot.{Slot}
use Rattle.otel_batch.specs.declared.machine.state.Slot.TheVariants as slot
use Rattle.otel_batch.specs.declared.machine.step.Outcome.{Outcome}
use Rattle.otel_batch.specs.declared.machine.step.Outcome.TheVariants as outcome
use Rattle.otel_batch.specs.declared.machine.step.Step.{Step}
use Rattle.otel_batch.specs.declared.machine.step.Step.TheVariants as step
use Rattle.otel_export.specs.declared.trace.export.SpanExporter.{Ghosts}

-- what the producer of this slot does next with the span that it has, if it has one
abbrev pub producers_next : Option Slot → Option Step
producers_next (Some (slot.Holding span n)) = Some (step.Send 0)
producers_next (Some slot.Refused) = Some (step.Undo 0)
producers_next (Some slot.Asking) = Some (step.Ask 0)
producers_next (Some slot.Posting) = Some (step.Post 0)
producers_next (Some slot.Resetting) = Some (step.Reset 0)
producers_next _ = None

-- the first producer's next step, by the state of control
abbrev pub next_of_producer : Control → Option Step
next_of_producer c = producers_next (slice_get c.slots 0)

-- the worker has nothing to do: it is gone, or ready where no message is
abbrev pub is_idle_worker : Control → Bool
is_idle_worker c = is_gone c.worker || is_ready c.worker && length c.messages == 0

-- the worker's next step; none where it has nothing to do, or the first producer has an answer to collect
abbrev pub next_of_worker : Control → Option Step
next_of_worker c =
    if is_answered (slice_get c.slots 0) || is_idle_worker c then None else Some (next_step c.worker)

-- the error of the last drain that these outcomes finished for nobody; with none this one
abbrev pub last_error : Option OTelSdkError → List Outcome → Option OTelSdkError
last_error before [] = before
last_error before (outcome.Finished error ∷ os) = last_error error os
last_error before (_ ∷ os) = last_error before os

-- the error of a drain after one more outcome, where a load begins the next drain
abbrev pub error_next : Option OTelSdkError → Outcome → Option OTelSdkError
error_next before (outcome.Loaded target) = None
error_next before o = error_after before o

-- the first error of the last drain that these outcomes loaded; with none this one
abbrev pub own_error : Option OTelSdkError → List Outcome → Option OTelSdkError
own_error before [] = before
own_error before (o ∷ os) = own_error (error_next before o) os

-- whether a drain found no memory for a batch, after one more outcome, where a load begins the next drain
abbrev pub refusal_next : Bool → Outcome → Bool
refusal_next before (outcome.Loaded target) = false
refusal_next before outcome.NoMemory = true
refusal_next before _ = before

-- whether the last drain that these outcomes loaded found no memory for a batch; with none this
abbrev pub own_refusal : Bool → List Outcome → Bool
own_refusal before [] = before
own_refusal before (o ∷ os) = own_refusal (refusal_next before o) os

module _ {E : Type 0} (calls : Ghosts E) where
  -- a run in which each step is the next one of the state before it
  abbrev pub GoesBy : (Control → Option Step) → Machine E → List Step → List Outcome → Machine E → Type 0
  GoesBy next s [] [] t = t ≡ s
  GoesBy next s (x ∷ xs) (o ∷ os) t =
      (next s.control ≡ Some x) × (between : Machine E) × IsStep calls s x o between × GoesBy next between xs os t
  GoesBy next s [] (o ∷ os) t = ⊥
  GoesBy next s (x ∷ xs) [] t = ⊥

  -- such a run up to where no step is next
  pub record WorksOff (next : Control → Option Step) (s : Machine E) (os : List Outcome) (t : Machine E)
      : Type 0 where
    pub steps : List Step
    pub goes : GoesBy next s steps os t
    pub over : next t.control ≡ None

  -- the worker works until it has nothing to do. The answer is that of its last drain, Ok where it had none
  pub record WorkerWorks (s : Machine E) (answer : Result (Unit {0}) OTelSdkError) (t : Machine E) : Type 0 where
    pub outcomes : List Outcome
    pub works : WorksOff next_of_worker s outcomes t
    pub answers : result_err answer ≡ last_error None outcomes

  -- the timer runs out, and the worker works
  pub record TicksAndWorks (s : Machine E) (answer : Result (Unit {0}) OTelSdkError) (t : Machine E) : Type 0 where
    pub ticked : Machine E
    pub ticks : Run calls s (step.Tick ∷ []) (outcome.Ticked ∷ []) ticked
    pub works : WorkerWorks ticked answer t

  -- the worker works until the producer's request is answered, and the producer collects this answer
  pub record CollectsAnswer (s : Machine E) (answer : Result (Unit {0}) OTelSdkError) (t : Machine E) : Type 0 where
    pub outcomes : List Outcome
    pub answered : Machine E
    pub works : WorksOff next_of_worker s outcomes answered
    pub collects : Run calls answered (step.Collect 0 ∷ []) (outcome.Collected answer ∷ []) t

  -- an end at a queue: the span is offered, and the producer does what is then to be done with it. No span reaches the
  -- exporter
  pub record OffersSpan (s : Machine E) (span : PlainSpanData) (t : Machine E) : Type 0 where
    pub offered : Outcome
    pub holding : Machine E
    pub outcomes : List Outcome
    pub offers : Run calls s (step.Offer 0 span ∷ []) (offered ∷ []) holding
    pub works : WorksOff next_of_producer holding outcomes t
    pub exporter : t.exporter ≡ s.exporter

  -- the worker pulls, once and so many times more, up to where its next step is another one. No drain ends by that
  pub record PullsBatch (s t : Machine E) : Type 0 where
    pub more : ℕ
    pub outcomes : List Outcome
    pub pulled : Outcome
    pub goes : GoesBy next_of_worker s (step.Pull ∷ replicate more step.Pull) (pulled ∷ outcomes) t
    pub over : next_of_worker t.control ≡ Some step.Pull → ⊥
    pub finishes_none : (before : Option OTelSdkError) → last_error before (pulled ∷ outcomes) ≡ before
