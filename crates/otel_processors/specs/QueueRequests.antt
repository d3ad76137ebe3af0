-- What a batch queue with one producer does where a request is made to it and carried out, or a resource is posted, and
-- what it tells.
use Rattle.std.specs.Prelude.{◌≡◌, ◌||◌, not, Bool, true, false, [], ◌∷◌, Some, None, Result, Ok, Err, OnOk}
use Rattle.std.specs.Prelude.{MatchBool, MatchResult, length}
use Rattle.otel_resource.specs.Resource.{PlainResource}
use Rattle.otel_export.specs.declared.error.OTelSdkError.{OTelSdkError}
use Rattle.otel_export.specs.declared.error.OTelSdkError.TheVariants.{AlreadyShutdown, OutOfMemory}
use Rattle.otel_export.specs.Telling.{and_then_told}
use Rattle.otel_export.specs.ExporterCalls.{IsInternalFailure}
use Rattle.otel_pipeline.specs.ProcessorTelling.{ProcessorTelling, TakesNothing, spans_told}
use Rattle.otel_batch.specs.Workers.{is_ready, is_gone}
use Rattle.otel_batch.specs.MachineState.{Machine, counts, is_crowded, stranded_in}
use Rattle.otel_batch.specs.DrainResult.{IsErrorOf}
use Rattle.otel_batch.specs.KnownRequests.{step_of}
use Rattle.otel_batch.specs.MachineRun.{Run}
use Rattle.otel_batch.specs.WorkedOff.{CollectsAnswer, own_error, own_refusal}
use Rattle.otel_batch.specs.declared.machine.state.Request.{Request}
use Rattle.otel_batch.specs.declared.machine.state.Request.TheVariants as request
use Rattle.otel_batch.specs.declared.machine.state.Slot.TheVariants as slot
use Rattle.otel_batch.specs.declared.machine.step.Outcome.{Outcome}
use Rattle.otel_batch.specs.declared.machine.step.Outcome.TheVariants as outcome
use Rattle.otel_batch.specs.declared.machine.step.Step.TheVariants as step
use Rattle.otel_export.specs.declared.trace.export.SpanExporter.{Ghosts}

-- between two calls the producer has no span, waits for nothing and has no answer, the worker is ready or gone, and
-- there is nothing in its hand. A completed shutdown has left no span after
pub record IsAtRest {E : Type 0} (m : Machine E) : Type 0 where
  pub slots : m.control.slots ≡ slot.Idle ∷ []
  pub worker : is_ready m.control.worker || is_gone m.control.worker ≡ true
  pub hand : m.hand ≡ []
  pub left : m.control.closed ≡ true → m.waiting ≡ []

-- the answer of a shutdown that is carried out, and whether the queue is then closed, by whether its own drain found no
-- memory for a batch
abbrev pub ShutdownAnswers : (refused : Bool) → Result (Unit {0}) OTelSdkError → (closed : Bool) → Type 0
ShutdownAnswers false answer closed = (answer ≡ Ok tt) × (closed ≡ true)
ShutdownAnswers true answer closed = (answer ≡ Err OutOfMemory) × (closed ≡ false)

-- what the answer of a shutdown means: with Ok the queue is closed, with an error it is as open as before
abbrev pub ClosesIfOk : {E : Type 0} → Machine E → Result (Unit {0}) OTelSdkError → Machine E → Type 0
ClosesIfOk s answer t = MatchResult answer (λ _. t.control.closed ≡ true) (λ _. t.control.closed ≡ s.control.closed)

module _ {E : Type 0} (calls : Ghosts E) where
  -- what a queue with its exporter tells: the spans of the exporter's batches, followed by those that wait. It takes
  -- every span that is handed to it
  abbrev pub queue_telling : Machine E → ProcessorTelling
  queue_telling m = record {
    spans = None;
    heard = and_then_told (spans_told (calls.told m.exporter)) m.waiting;
    waiting = length m.waiting;
    dropped = m.control.dropped;
    takes_all = true;
    is_open = not m.control.closed;
  }

  -- a request that is carried out: it is posted, the worker works until it is answered, and the answer is collected.
  -- That of a flush is the first error of its own drain, which is the last, but for the text of a failure. That of a
  -- shutdown says whether its own drain found memory, and so whether the queue is closed
  pub record AnswersRequest (asked : Request) (s : Machine E) (answer : Result (Unit {0}) OTelSdkError)
      (t : Machine E) : Type 0 where
    pub posted : Machine E
    pub posts : Run calls s (step_of asked 0 ∷ []) (outcome.Requested ∷ []) posted
    pub answers : CollectsAnswer calls posted answer t
    pub says : asked ≡ request.Flush → IsErrorOf answer (own_error None answers.outcomes)
    pub shuts : asked ≡ request.Shutdown
        → ShutdownAnswers (own_refusal false answers.outcomes) answer t.control.closed

  -- a request: an error that changes nothing after a completed shutdown or where the control queue is full, and else
  -- carried out
  abbrev pub Requests : Request → Machine E → Result (Unit {0}) OTelSdkError → Machine E → Type 0
  Requests asked s answer t = MatchBool s.control.closed
      ((answer ≡ Err AlreadyShutdown) × (t ≡ s))
      (MatchBool (is_crowded (counts s))
      (MatchResult answer (λ _. ⊥) IsInternalFailure × (t ≡ s))
      (AnswersRequest asked s answer t))

  -- what a request does, whether it was carried out or not: with Ok nothing waits, a flush leaves the queue open or
  -- closed as it was, and where the queue is closed after it no span was left behind
  pub record MakesRequest (asked : Request) (s : Machine E) (answer : Result (Unit {0}) OTelSdkError) (t : Machine E)
      : Type 0 where
    pub gives : Requests asked s answer t
    pub told : TakesNothing (queue_telling s) (queue_telling t)
    pub emptied : OnOk answer (t.waiting ≡ [])
    pub is_open : asked ≡ request.Flush → t.control.closed ≡ s.control.closed
    pub shutdown : asked ≡ request.Shutdown → ClosesIfOk s answer t
    pub left : t.control.closed ≡ true → stranded_in t ≡ Some 0
    pub rest : IsAtRest t

  -- a resource is posted; a full or closed queue drops it
  pub record PostsResource (s : Machine E) (resource : PlainResource) (t : Machine E) : Type 0 where
    pub outcome : Outcome
    pub posts : Run calls s (step.PostResource resource ∷ []) (outcome ∷ []) t
