-- Along a run of the batch queue no request is lost: at each point it is in the control queue, with the worker, or
-- answered, one of the three, up to the step that collects its answer.
use Rattle.std.specs.Prelude.{◌≡◌, ℕ, suc, ◌+◌, ◌⊎◌, List, [], ◌∷◌, take, drop, Some, Result, slice_get, sum_by}
use Rattle.otel_export.specs.declared.error.OTelSdkError.{OTelSdkError}
use Rattle.otel_batch.specs.Messages.{message_names}
use Rattle.otel_batch.specs.Workers.{worker_names}
use Rattle.otel_batch.specs.MachineState.{Machine, Counts, counts, slot_at}
use Rattle.otel_batch.specs.KeptRequests.{AnswersTo, Collects}
use Rattle.otel_batch.specs.MachineRun.{Run, IsStep}
use Rattle.otel_batch.specs.declared.machine.state.Request.{Request}
use Rattle.otel_batch.specs.declared.machine.state.Request.TheVariants as request
use Rattle.otel_batch.specs.declared.machine.state.Slot.TheVariants as slot
use Rattle.otel_batch.specs.declared.machine.step.Outcome.{Outcome}
use Rattle.otel_batch.specs.declared.machine.step.Outcome.TheVariants as outcome
use Rattle.otel_batch.specs.declared.machine.step.Step.{Step}
use Rattle.otel_batch.specs.declared.machine.step.Step.TheVariants as step
use Rattle.otel_export.specs.declared.trace.export.SpanExporter.{Ghosts}

-- the step by which p makes a request
abbrev pub step_of : Request → ℕ → Step
step_of request.Flush p = step.RequestFlush p
step_of request.Shutdown p = step.RequestShutdown p

-- how many requests of p the control queue has, and the worker is at
abbrev pub requests_of : ℕ → Counts → ℕ
requests_of p s = sum_by (message_names p) s.control.messages + worker_names p s.control.why s.control.worker

-- p waits for the answer to its request, which is once in the control queue or once with the worker
pub record IsPending (p : ℕ) (asked : Request) (s : Counts) : Type 0 where
  pub waits : slot_at s p ≡ Some (slot.Waiting asked)
  pub once : requests_of p s ≡ 1

-- p has this answer to its request, which is neither in the control queue nor with the worker
pub record IsAnswered (p : ℕ) (answer : Result (Unit {0}) OTelSdkError) (s : Counts) : Type 0 where
  pub has : slot_at s p ≡ Some (slot.Answered answer)
  pub left : requests_of p s ≡ 0

module _ {E : Type 0} (calls : Ghosts E) where
  -- a run in which p has this answer at the start and at each point, to the end or up to the step by which it collects
  -- it
  abbrev pub StaysAnswered : ℕ → Result (Unit {0}) OTelSdkError → Machine E → List Step → List Outcome → Machine E →
      Type 0
  StaysAnswered p answer s [] [] t = IsAnswered p answer (counts s) × (t ≡ s)
  StaysAnswered p answer s (x ∷ xs) (o ∷ os) t =
      IsAnswered p answer (counts s)
      × (between : Machine E)
      × IsStep calls s x o between
      × (StaysAnswered p answer between xs os t ⊎ Collects x o p answer × Run calls between xs os t)
  StaysAnswered p answer s [] (o ∷ os) t = ⊥
  StaysAnswered p answer s (x ∷ xs) [] t = ⊥

  -- a run in which the request of p is pending at the start and at each point, to the end or up to a step that
  -- answers it, after which p has that answer
  abbrev pub StaysKnown : ℕ → Request → Machine E → List Step → List Outcome → Machine E → Type 0
  StaysKnown p asked s [] [] t = IsPending p asked (counts s) × (t ≡ s)
  StaysKnown p asked s (x ∷ xs) (o ∷ os) t =
      IsPending p asked (counts s)
      × (between : Machine E)
      × IsStep calls s x o between
      × (StaysKnown p asked between xs os t
      ⊎ AnswersTo (counts s) x o p × (answer : Result (Unit {0}) OTelSdkError) × StaysAnswered p answer between xs os t)
  StaysKnown p asked s [] (o ∷ os) t = ⊥
  StaysKnown p asked s (x ∷ xs) [] t = ⊥

  -- the n-th step of a run was a request of p, which is known from there on
  pub record IsKnownAfter (n p : ℕ) (asked : Request) (s : Machine E) (xs : List Step) (os : List Outcome)
      (t : Machine E) : Type 0 where
    -- the machine before that step, and after it
    pub before : Machine E
    pub posted : Machine E
    pub up_to : Run calls s (take n xs) (take n os) before
    pub posts : Run calls before (take 1 (drop n xs)) (take 1 (drop n os)) posted
    pub after : StaysKnown p asked posted (drop (suc n) xs) (drop (suc n) os) t

  -- no request is lost: neither one that is pending at the start of a run, nor one that was made in it, nor one whose
  -- answer was not collected before
  pub record KnowsRequests (s : Machine E) (xs : List Step) (os : List Outcome) (t : Machine E) : Type 0 where
    pub earlier : (p : ℕ) (asked : Request) → slot_at (counts s) p ≡ Some (slot.Waiting asked) →
        StaysKnown p asked s xs os t
    pub made : (n p : ℕ) (asked : Request) → slice_get xs n ≡ Some (step_of asked p) →
        slice_get os n ≡ Some outcome.Requested → IsKnownAfter n p asked s xs os t
    pub answered : (p : ℕ) (answer : Result (Unit {0}) OTelSdkError) →
        slot_at (counts s) p ≡ Some (slot.Answered answer) → StaysAnswered p answer s xs os t
