-- No request to the worker of a batch queue is lost: who waits goes on waiting until an answer that is its own, and has
-- that answer until it collects it.
use Rattle.std.specs.Prelude.{◌≡◌, ℕ, ◌<◌, ◌⊎◌, true, Some, Result, sum_by}
use Rattle.otel_export.specs.declared.error.OTelSdkError.{OTelSdkError}
use Rattle.otel_batch.specs.Slots.{is_answered}
use Rattle.otel_batch.specs.Messages.{message_names}
use Rattle.otel_batch.specs.Workers.{worker_names}
use Rattle.otel_batch.specs.MachineState.{Counts, slot_at}
use Rattle.otel_batch.specs.declared.machine.state.Request.{Request}
use Rattle.otel_batch.specs.declared.machine.state.Slot.TheVariants as slot
use Rattle.otel_batch.specs.declared.machine.step.Outcome.{Outcome}
use Rattle.otel_batch.specs.declared.machine.step.Outcome.TheVariants as outcome
use Rattle.otel_batch.specs.declared.machine.step.Step.{Step}
use Rattle.otel_batch.specs.declared.machine.step.Step.TheVariants as step

-- the step answers the request of p: its drain has finished, or its shutdown is completed, or a shutdown found it in the
-- control queue
abbrev pub AnswersTo : Counts → Step → Outcome → ℕ → Type 0
AnswersTo s step.Finish (outcome.Finished e) p = worker_names p s.control.why s.control.worker ≡ 1
AnswersTo s step.Close (outcome.ShutDown n) p =
    (worker_names p s.control.why s.control.worker ≡ 1) ⊎ (0 < sum_by (message_names p) s.control.messages)
AnswersTo s _ _ p = ⊥

-- the step is the one by which p collects this answer
abbrev pub Collects : Step → Outcome → ℕ → Result (Unit {0}) OTelSdkError → Type 0
Collects (step.Collect q) (outcome.Collected given) p answer = (q ≡ p) × (given ≡ answer)
Collects _ _ p answer = ⊥

-- who waits goes on waiting for the same, or the step answers it; who has an answer goes on having it, or the step is
-- its collect
pub record KeepsRequests (s : Counts) (x : Step) (o : Outcome) (t : Counts) : Type 0 where
  pub each : (p : ℕ) (request : Request) → slot_at s p ≡ Some (slot.Waiting request) →
      (slot_at t p ≡ Some (slot.Waiting request)) ⊎ (is_answered (slot_at t p) ≡ true) × AnswersTo s x o p
  pub answered : (p : ℕ) (answer : Result (Unit {0}) OTelSdkError) → slot_at s p ≡ Some (slot.Answered answer) →
      (slot_at t p ≡ Some (slot.Answered answer)) ⊎ Collects x o p answer
