-- All that holds of a list of steps of the batch queue.
use Rattle.std.specs.Prelude.{◌≡◌, ℕ, List, true, slice_get}
use Rattle.otel_batch.specs.Slots.{slot_waits}
use Rattle.otel_batch.specs.Workers.{is_gone}
use Rattle.otel_batch.specs.MachineState.{Machine, counts}
use Rattle.otel_batch.specs.SoundMachine.{IsSound}
use Rattle.otel_batch.specs.MachineRun.{Run, accepted, batch_sizes, counted_up, full_sends, holds_at}
use Rattle.otel_batch.specs.Conservation.{Conserves, IsFirst, LosesNoSpan}
use Rattle.otel_batch.specs.ShutdownSilence.{SilentAfterShutdown, StaysSilent}
use Rattle.otel_batch.specs.StrandedSpans.{AllAreCounted, CountsStranded}
use Rattle.otel_batch.specs.KnownRequests.{KnowsRequests}
use Rattle.otel_batch.specs.Drains.{BoundsDrains, CompletesDrains, FitBatches, largest_batch}
use Rattle.otel_batch.specs.DrainAnswers.{AnswersDrains}
use Rattle.otel_batch.specs.declared.machine.step.Outcome.{Outcome}
use Rattle.otel_batch.specs.declared.machine.step.Step.{Step}
use Rattle.otel_export.specs.declared.trace.export.SpanExporter.{Ghosts}

module _ {E : Type 0} (calls : Ghosts E) where
  -- a machine takes these steps with these outcomes, one after another, and becomes that one
  pub record RunsTo (s : Machine E) (xs : List Step) (os : List Outcome) (t : Machine E) : Type 0 where
    -- each step has its outcome, and is permitted
    pub ran : Run calls s xs os t
    -- the spans that a new machine accepted are, in order and each once, those handed to the exporter, those in the
    -- worker's hand, and those that wait
    pub loses_no_span : IsFirst s → LosesNoSpan calls s xs os t
    -- so it is from any machine on, after what was in hand and waited before
    pub conserved : Conserves calls s (accepted (holds_at s.control.slots) xs os) (batch_sizes os) t
    -- each span that met a full queue is counted
    pub dropped : t.control.dropped ≡ counted_up s.control.dropped (full_sends xs os)
    -- a finished drain that found memory handed over all that waited at its load
    pub drains : CompletesDrains calls s xs os t
    -- its answer is the first error that its outcomes tell; a shutdown refused for memory leaves the machine open
    pub answers : AnswersDrains calls s xs os t
    -- it takes a bounded number of the worker's steps
    pub bounded : BoundsDrains s.control xs os
    -- no batch is empty or too large
    pub batches : FitBatches (largest_batch s.control) (batch_sizes os)
    -- each request is in the control queue, with the worker or answered, in one of the three and once, up to the step
    -- that collects its answer
    pub requests : KnowsRequests calls s xs os t
    -- once the worker is gone nobody waits for an answer
    pub none_waits : is_gone t.control.worker ≡ true → (p : ℕ) → slot_waits (slice_get t.control.slots p) ≡ 0
    -- nothing follows a shutdown
    pub silent : SilentAfterShutdown calls s xs os t
    -- so it is where the machine was closed before
    pub stays_silent : s.control.closed ≡ true → StaysSilent s os t
    -- a shutdown says how many spans it leaves waiting: what was in hand or waited and what was accepted is what was
    -- handed over, and those
    pub stranded : CountsStranded s xs os t
    -- in a new machine, what was accepted is what was handed over, and those
    pub counted : IsFirst s → AllAreCounted xs os
    -- what holds of every machine holds of this one
    pub sound : IsSound (counts t)
