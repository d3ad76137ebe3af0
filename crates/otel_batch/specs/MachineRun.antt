-- Lists of steps of the batch queue, one after another.
use Rattle.std.specs.Prelude.{◌≡◌, ℕ, ◌==◌, ◌+◌, take, drop, length, List, [], ◌∷◌, ◌++◌, slice_get}
use Rattle.std.specs.Prelude.{if◌then◌else◌}
use Rattle.otel_export.specs.PlainSpanData.{PlainSpanData}
pub use Rattle.otel_export.specs.StoredBatches.{counted_up}
use Rattle.otel_batch.specs.Slots.{span_held}
use Rattle.otel_batch.specs.MachineState.{Machine, counts}
use Rattle.otel_batch.specs.SoundMachine.{IsSound}
use Rattle.otel_batch.specs.PermittedStep.{IsPermitted}
use Rattle.otel_batch.specs.MovedSpans.{MovesSpans}
use Rattle.otel_batch.specs.KeptRequests.{KeepsRequests}
use Rattle.otel_batch.specs.GoingOn.{GoesOn}
use Rattle.otel_batch.specs.declared.machine.state.Slot.{Slot}
use Rattle.otel_batch.specs.declared.machine.step.Outcome.{Outcome}
use Rattle.otel_batch.specs.declared.machine.step.Outcome.TheVariants as outcome
use Rattle.otel_batch.specs.declared.machine.step.Step.{Step}
use Rattle.otel_batch.specs.declared.machine.step.Step.TheVariants as step
use Rattle.otel_export.specs.declared.trace.export.SpanExporter.{Ghosts}

module _ {E : Type 0} (calls : Ghosts E) where
  -- one step: it is permitted, moves the spans as it says, loses no request, is enabled where it is the worker's next,
  -- and leaves a sound machine
  pub record IsStep (s : Machine E) (x : Step) (o : Outcome) (t : Machine E) : Type 0 where
    pub permitted : IsPermitted (counts s) x o (counts t)
    pub moved : MovesSpans calls s x o t
    pub requests : KeepsRequests (counts s) x o (counts t)
    pub goes_on : GoesOn (counts s) x o
    pub sound : IsSound (counts t)

  -- a whole run: each step has its outcome, and begins where the one before it ended
  abbrev pub Run : Machine E → List Step → List Outcome → Machine E → Type 0
  Run s [] [] t = t ≡ s
  Run s (x ∷ xs) (o ∷ os) t = (between : Machine E) × IsStep s x o between × Run between xs os t
  Run s [] (o ∷ os) t = ⊥
  Run s (x ∷ xs) [] t = ⊥

  -- a run of these steps and then those, in two: the second begins where the first ended
  pub record SplitsRun (s : Machine E) (xs ys : List Step) (os : List Outcome) (t : Machine E) : Type 0 where
    pub between : Machine E
    pub first : Run s xs (take (length xs) os) between
    pub second : Run between ys (drop (length xs) os) t

-- the span that each producer holds in these slots
abbrev pub holds_at : List Slot → ℕ → List PlainSpanData
holds_at slots p = span_held (slice_get slots p)

-- the span that each producer holds after a step: that of its last offer that was counted
abbrev pub holds_after : (ℕ → List PlainSpanData) → Step → Outcome → ℕ → List PlainSpanData
holds_after holds (step.Offer p span) (outcome.Counted n) q = if q == p then span ∷ [] else holds q
holds_after holds _ _ q = holds q

-- the span that a step accepts
abbrev pub accepts : (ℕ → List PlainSpanData) → Step → Outcome → List PlainSpanData
accepts holds (step.Send p) outcome.Accepted = holds p
accepts holds _ _ = []

-- the spans that a run accepts, in the order of the sends, where the producers hold these spans before it
abbrev pub accepted : (ℕ → List PlainSpanData) → List Step → List Outcome → List PlainSpanData
accepted holds [] os = []
accepted holds (x ∷ xs) [] = []
accepted holds (x ∷ xs) (o ∷ os) = accepts holds x o ++ accepted (λ q. holds_after holds x o q) xs os

-- what was put after a list
abbrev pub added : {X : Type 0} → List X → List X → List X
added before after = drop (length before) after

-- how many spans the outcomes say that each batch had
abbrev pub batch_sizes : List Outcome → List ℕ
batch_sizes [] = []
batch_sizes (outcome.HandedOver k e ∷ os) = k ∷ batch_sizes os
batch_sizes (_ ∷ os) = batch_sizes os

-- how many sends of a run met a full queue
abbrev pub full_sends : List Step → List Outcome → ℕ
full_sends [] os = 0
full_sends (x ∷ xs) [] = 0
full_sends (step.Send p ∷ xs) (outcome.Full ∷ os) = full_sends xs os + 1
full_sends (x ∷ xs) (o ∷ os) = full_sends xs os
