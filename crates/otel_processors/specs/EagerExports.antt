-- What a batch queue with one producer does at an end where its processor is eager: a full batch is exported where the
-- span ends that fills it, and not only where somebody calls the worker.
use Rattle.std.specs.Prelude.{◌≡◌, ◌+◌, ◌<◌, ◌≤◌, ◌||◌, ℕ, Bool, true, false, is_some, Result, MatchBool, List, count_by}
use Rattle.std.specs.Prelude.{length}
use Rattle.otel_export.specs.declared.error.OTelSdkError.{OTelSdkError}
use Rattle.otel_export.specs.declared.trace.export.SpanExporter.{Ghosts}
use Rattle.otel_export.specs.PlainSpanData.{PlainSpanData}
use Rattle.otel_pipeline.specs.ProcessorTelling.{TakesNothing}
use Rattle.otel_batch.specs.MachineState.{Machine}
use Rattle.otel_batch.specs.DrainAnswers.{finds_no_memory}
use Rattle.otel_batch.specs.Drains.{has_full_batch, largest_batch}
use Rattle.otel_batch.specs.WorkedOff.{OffersSpan, TicksAndWorks, WorkerWorks}
use Rattle.otel_batch.specs.declared.machine.step.Outcome.{Outcome}
use Rattle.otel_batch.specs.declared.machine.step.Outcome.TheVariants as outcome
use Rattle.otel_processors.specs.QueueRequests.{IsAtRest, queue_telling}

-- whether an outcome is that of an export that failed: the exporter answered an error, or there was no memory for its
-- batch
abbrev pub is_failed_export : Outcome → Bool
is_failed_export (outcome.HandedOver count error) = is_some error
is_failed_export outcome.NoMemory = true
is_failed_export _ = false

-- how many exports failed, by the outcomes of the worker's steps
abbrev pub failures_in : List Outcome → ℕ
failures_in outcomes = count_by is_failed_export outcomes

module _ {E : Type 0} (calls : Ghosts E) where
  -- the worker works until it has nothing to do, and so many exports fail
  pub record Works (s : Machine E) (failed : ℕ) (t : Machine E) : Type 0 where
    pub answer : Result (Unit {0}) OTelSdkError
    pub works : WorkerWorks calls s answer t
    pub failures : failed ≡ failures_in works.outcomes

  -- so it does where as many spans wait as a batch has
  abbrev pub WorksIfFull : Machine E → ℕ → Machine E → Type 0
  WorksIfFull s failed t = MatchBool (has_full_batch s) (Works s failed t) ((failed ≡ 0) × (t ≡ s))

  -- the timer's drain, in which so many exports fail, and whether it found no memory for a batch
  pub record Drains (s : Machine E) (refused : Bool) (failed : ℕ) (t : Machine E) : Type 0 where
    pub answer : Result (Unit {0}) OTelSdkError
    pub drain : TicksAndWorks calls s answer t
    pub refusal : refused ≡ finds_no_memory drain.works.outcomes
    pub failures : failed ≡ failures_in drain.works.outcomes

  -- where as many spans wait as a batch has, the timer's drain is carried out
  abbrev pub DrainsIfFull : Machine E → Bool → ℕ → Machine E → Type 0
  DrainsIfFull s refused failed t = MatchBool (has_full_batch s) (Drains s refused failed t)
      ((refused ≡ false) × (failed ≡ 0) × (t ≡ s))

  -- where as many spans wait as a batch has they are exported: the worker does what was asked for, and where it leaves
  -- as many the timer's drain is carried out, which may find no memory for a batch. So many of these exports fail
  pub record ExportsFullBatch (s : Machine E) (refused : Bool) (failed : ℕ) (t : Machine E) : Type 0 where
    pub failed_working : ℕ
    pub idle : Machine E
    pub works : WorksIfFull s failed_working idle
    pub failed_draining : ℕ
    pub drains : DrainsIfFull idle refused failed_draining t
    pub failures : failed ≡ failed_working + failed_draining

  -- a sampled span ends at an open queue. A batch that is full already is exported first, so that the span finds room;
  -- where there was room, so is the batch that the span fills
  pub record OffersEagerly (s : Machine E) (span : PlainSpanData) (refused : Bool) (failed : ℕ) (t : Machine E)
      : Type 0 where
    pub refused_before : Bool
    pub failed_before : ℕ
    pub roomy : Machine E
    pub makes_room : ExportsFullBatch s refused_before failed_before roomy
    pub queued : Machine E
    pub offers : OffersSpan calls roomy span queued
    pub refused_after : Bool
    pub failed_after : ℕ
    pub exports : MatchBool (has_full_batch roomy)
        ((refused_after ≡ false) × (failed_after ≡ 0) × (t ≡ queued))
        (ExportsFullBatch queued refused_after failed_after t)
    pub refusal : refused ≡ refused_before || refused_after
    pub failures : failed ≡ failed_before + failed_after

  -- what the worker leaves of a queue at rest. Where as many spans wait as before, no more was heard
  pub record LeavesAtRest (s t : Machine E) : Type 0 where
    pub told : TakesNothing (queue_telling calls s) (queue_telling calls t)
    pub fewer : length t.waiting ≤ length s.waiting
    pub quiet : length t.waiting ≡ length s.waiting
        → (queue_telling calls t).heard ≡ (queue_telling calls s).heard
    pub queue_size : t.control.queue_size ≡ s.control.queue_size
    pub batch_size : t.control.batch_size ≡ s.control.batch_size
    pub closed : t.control.closed ≡ s.control.closed
    pub rest : IsAtRest t

  -- the timer's drain of a full batch. Where it found memory for each batch, fewer spans wait than a batch has
  pub record DrainsBatch (s : Machine E) (failed : ℕ) (t : Machine E) : Type 0 where
    pub refused : Bool
    pub drains : DrainsIfFull s refused failed t
    pub below : 0 < largest_batch s.control → refused ≡ false → has_full_batch t ≡ false

  -- so it is where a full batch is exported
  pub record ExportsBatch (s : Machine E) (failed : ℕ) (t : Machine E) : Type 0 where
    pub refused : Bool
    pub exports : ExportsFullBatch s refused failed t
    pub below : 0 < largest_batch s.control → refused ≡ false → has_full_batch t ≡ false

  -- an eager end. Where its drains found memory for each batch no span is dropped, and fewer wait than a batch has
  pub record EndsBatch (s : Machine E) (span : PlainSpanData) (failed : ℕ) (t : Machine E) : Type 0 where
    pub refused : Bool
    pub offers : OffersEagerly s span refused failed t
    pub largest : largest_batch t.control ≡ largest_batch s.control
    pub loses_none : 0 < largest_batch s.control → refused ≡ false → t.control.dropped ≡ s.control.dropped
    pub below : 0 < largest_batch s.control → refused ≡ false → has_full_batch t ≡ false
