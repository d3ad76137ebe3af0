-- The batch processor: a batch queue with one producer and a worker that works where it is called. Each of its calls is
-- a run of that queue.
use Rattle.std.specs.Prelude.{◌≡◌, ◌+◌, ◌<◌, ◌&&◌, ℕ, Bool, true, false, not, nat_le, List, [], ◌∷◌, length}
use Rattle.std.specs.Prelude.{Option, Some, None, Result, Ok, Err, MatchBool, MatchOption, MatchResult}
use Rattle.std.specs.Prelude.{if◌then◌else◌}
use Rattle.std.specs.declared.alloc.AllocError.{AllocError}
use Rattle.otel_resource.specs.Resource.{PlainResource}
use Rattle.otel_export.specs.declared.error.OTelSdkError.{OTelSdkError}
use Rattle.otel_export.specs.declared.error.OTelSdkError.TheVariants.{AlreadyShutdown}
use Rattle.otel_export.specs.PlainSpanData.{PlainSpanData, is_sampled}
use Rattle.otel_pipeline.specs.ProcessorTelling.{ProcessorTelling}
use Rattle.otel_batch.specs.PlainBatchConfig.{PlainBatchConfig}
use Rattle.otel_batch.specs.MachineState.{Machine, first_machine, stranded_in}
use Rattle.otel_batch.specs.MachineRun.{counted_up}
use Rattle.otel_batch.specs.Drains.{has_full_batch, largest_batch}
use Rattle.otel_batch.specs.WorkedOff.{OffersSpan, TicksAndWorks, WorkerWorks}
use Rattle.otel_batch.specs.declared.machine.state.Request.{Request}
use Rattle.otel_batch.specs.declared.machine.state.Request.TheVariants as request
use Rattle.otel_export.specs.declared.trace.export.SpanExporter.{Ghosts}
use Rattle.otel_processors.specs.EagerExports.{OffersEagerly}
use Rattle.otel_processors.specs.QueueRequests.{ClosesIfOk, PostsResource, Requests, queue_telling}

-- a batch processor: its queue, the time between two drains by the timer in nanoseconds, when the timer was started
-- last, if it was, whether it exports a full batch where the span ends that fills it, and how many of those exports
-- failed
pub record BatchProcessor (E : Type 0) : Type 0 where
  pub machine : Machine E
  pub delay : ℕ
  pub last : Option ℕ
  pub is_eager : Bool
  pub failed_exports : ℕ

-- a new batch processor: nothing waits, and the timer was not started
abbrev pub first_processor : {E : Type 0} → E → PlainBatchConfig → BatchProcessor E
first_processor exporter config = record {
  machine = first_machine exporter config 1;
  delay = config.scheduled_delay;
  last = None;
  is_eager = false;
  failed_exports = 0;
}

-- a new one that exports a full batch where the span ends that fills it
abbrev pub eager_processor : {E : Type 0} → E → PlainBatchConfig → BatchProcessor E
eager_processor exporter config = record (first_processor exporter config) { is_eager = true }

-- how many spans wait in a batch processor while it is open
abbrev pub batch_open_over : {E : Type 0} → BatchProcessor E → ℕ
batch_open_over p = if p.machine.control.closed then 0 else length p.machine.waiting

-- the end of this span may export a batch: the processor is eager and open, and the span sampled
abbrev pub ends_eagerly : {E : Type 0} → BatchProcessor E → PlainSpanData → Bool
ends_eagerly p span = p.is_eager && (not p.machine.control.closed && is_sampled span)

-- what a builder makes a batch processor of
pub record BatchProcessorBuilder (E : Type 0) : Type 0 where
  pub exporter : E
  pub config : PlainBatchConfig
  pub is_eager : Bool

-- the processor that a builder makes
abbrev pub built_processor : {E : Type 0} → BatchProcessorBuilder E → BatchProcessor E
built_processor builder =
    record (first_processor builder.exporter builder.config) { is_eager = builder.is_eager }

module _ {E : Type 0} (calls : Ghosts E) where
  -- what a batch processor tells is what its queue tells
  abbrev pub batch_telling : BatchProcessor E → ProcessorTelling
  batch_telling p = queue_telling calls p.machine

  -- an end that only queues the span
  pub record EndsByQueue (old : BatchProcessor E) (span : PlainSpanData) (refused : Bool) (new : BatchProcessor E)
      : Type 0 where
    pub offers : OffersSpan calls old.machine span new.machine
    pub refusal : refused ≡ false
    pub rest : new ≡ record old { machine = new.machine }

  -- an end that exports the batch that the span fills; exports that failed are counted, and one that found no memory for
  -- its batch is one of them
  pub record EndsEagerly (old : BatchProcessor E) (span : PlainSpanData) (refused : Bool) (new : BatchProcessor E)
      : Type 0 where
    pub failed : ℕ
    pub offers : OffersEagerly calls old.machine span refused failed new.machine
    pub counts : refused ≡ true → 0 < failed
    pub rest : new ≡ record old {
      machine = new.machine;
      failed_exports = counted_up old.failed_exports failed;
    }

  -- an end, and whether a drain in it found no memory for a batch
  pub record BatchEnds (old : BatchProcessor E) (span : PlainSpanData) (answer : Result (Unit {0}) AllocError)
      (new : BatchProcessor E) : Type 0 where
    pub refused : Bool
    pub ends : MatchBool (ends_eagerly old span) (EndsEagerly old span refused new) (EndsByQueue old span refused new)
    pub ok : answer ≡ Ok tt
    pub is_eager : new.is_eager ≡ old.is_eager
    pub largest : largest_batch new.machine.control ≡ largest_batch old.machine.control
    -- an eager processor with a place in its queue drops no span, unless a drain of this end found no memory
    pub loses_none : old.is_eager ≡ true → 0 < largest_batch old.machine.control → refused ≡ false
        → new.machine.control.dropped ≡ old.machine.control.dropped
    -- then fewer spans wait afterwards than a batch has
    pub below : ends_eagerly old span ≡ true → 0 < largest_batch old.machine.control → refused ≡ false
        → has_full_batch new.machine ≡ false

  -- ends at a batch processor, one after another
  abbrev pub EndInTurn : BatchProcessor E → List PlainSpanData → BatchProcessor E → Type 0
  EndInTurn old [] new = new ≡ old
  EndInTurn old (span ∷ spans) new = (answer : Result (Unit {0}) AllocError) × (next : BatchProcessor E)
      × BatchEnds old span answer next × EndInTurn next spans new

  -- such ends, in none of which a drain found no memory for a batch
  abbrev pub EndInMemory : BatchProcessor E → List PlainSpanData → BatchProcessor E → Type 0
  EndInMemory old [] new = new ≡ old
  EndInMemory old (span ∷ spans) new = (answer : Result (Unit {0}) AllocError) × (next : BatchProcessor E)
      × (ends : BatchEnds old span answer next) × (ends.refused ≡ false) × EndInMemory next spans new

  -- a flush or a shutdown. Where the queue is closed after it, no span was left behind
  pub record BatchRequests (asked : Request) (old : BatchProcessor E) (answer : Result (Unit {0}) OTelSdkError)
      (new : BatchProcessor E) : Type 0 where
    pub requests : Requests calls asked old.machine answer new.machine
    pub rest : new ≡ record old { machine = new.machine }
    pub shutdown : asked ≡ request.Shutdown → ClosesIfOk old.machine answer new.machine
    pub left : new.machine.control.closed ≡ true → stranded_in new.machine ≡ Some 0

  -- the worker works until it has nothing to do
  pub record WorksUntilIdle (old : BatchProcessor E) (answer : Result (Unit {0}) OTelSdkError)
      (new : BatchProcessor E) : Type 0 where
    pub works : WorkerWorks calls old.machine answer new.machine
    pub rest : new ≡ record old { machine = new.machine }

  -- a run of the worker, which is an error after a completed shutdown
  abbrev pub RunsWorker : BatchProcessor E → Result (Unit {0}) OTelSdkError → BatchProcessor E → Type 0
  RunsWorker old answer new = MatchBool old.machine.control.closed
      ((answer ≡ Err AlreadyShutdown) × (new ≡ old))
      (WorksUntilIdle old answer new)

  -- the timer has run out: its drain is carried out, and it is started again
  pub record DrainsByTimer (now : ℕ) (old : BatchProcessor E) (answer : Result (Unit {0}) OTelSdkError)
      (new : BatchProcessor E) : Type 0 where
    pub drains : TicksAndWorks calls old.machine answer new.machine
    pub rest : new ≡ record old { machine = new.machine; last = Some now }

  -- the time is told after a run of the worker with this answer: the first time the timer is started, and later it
  -- runs out once its time has passed
  abbrev pub TellsTime : ℕ → BatchProcessor E → Result (Unit {0}) OTelSdkError → Result (Unit {0}) OTelSdkError
      → BatchProcessor E → Type 0
  TellsTime now old worked answer new = MatchOption old.last
      ((answer ≡ worked) × (new ≡ record old { last = Some now }))
      (λ last. MatchBool (nat_le (last + old.delay) now)
      (DrainsByTimer now old answer new)
      ((answer ≡ worked) × (new ≡ old)))

  -- a run of the worker, and the time that is told after it
  pub record WorksAndTellsTime (now : ℕ) (old : BatchProcessor E) (answer : Result (Unit {0}) OTelSdkError)
      (new : BatchProcessor E) : Type 0 where
    pub worked : Result (Unit {0}) OTelSdkError
    pub idle : BatchProcessor E
    pub works : WorksUntilIdle old worked idle
    pub tells : TellsTime now idle worked answer new

  -- what is due at a moment, which is an error after a completed shutdown
  abbrev pub BatchDue : BatchProcessor E → ℕ → Result (Unit {0}) OTelSdkError → BatchProcessor E → Type 0
  BatchDue old now answer new = MatchBool old.machine.control.closed
      ((answer ≡ Err AlreadyShutdown) × (new ≡ old))
      (WorksAndTellsTime now old answer new)

  -- a resource, of which a copy is posted where there is memory for one
  pub record PostsCopy (old : BatchProcessor E) (resource : PlainResource) (new : BatchProcessor E) : Type 0 where
    pub posts : PostsResource calls old.machine resource new.machine
    pub rest : new ≡ record old { machine = new.machine }

  abbrev pub BatchTakesResource : BatchProcessor E → PlainResource → Result (Unit {0}) AllocError → BatchProcessor E
      → Type 0
  BatchTakesResource old resource answer new =
      MatchResult answer (λ _. PostsCopy old resource new) (λ _. new ≡ old)
