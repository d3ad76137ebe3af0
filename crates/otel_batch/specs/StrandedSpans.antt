-- A shutdown of the batch queue counts the spans that it leaves behind.
use Rattle.std.specs.Prelude.{◌≡◌, ℕ, ◌+◌, suc, take, List, [], Some, length, slice_get, sum}
use Rattle.otel_batch.specs.MachineState.{Machine, stranded_in}
use Rattle.otel_batch.specs.MachineRun.{accepted, batch_sizes, holds_at}
use Rattle.otel_batch.specs.declared.machine.step.Outcome.{Outcome}
use Rattle.otel_batch.specs.declared.machine.step.Outcome.TheVariants as outcome
use Rattle.otel_batch.specs.declared.machine.step.Step.{Step}

-- a run with these steps and outcomes left so many spans after: what was in hand or waited at its start and what it
-- accepted is what it handed over, and those
abbrev pub Leaves : {E : Type 0} → ℕ → Machine E → List Step → List Outcome → Type 0
Leaves k s xs os =
    length s.hand + length s.waiting + length (accepted (holds_at s.control.slots) xs os) ≡ sum (batch_sizes os) + k

-- the n-th step of a run completed a shutdown that left k spans after
pub record StrandsSpans {E : Type 0} (n k : ℕ) (s : Machine E) (xs : List Step) (os : List Outcome) (t : Machine E)
    : Type 0 where
  -- by the run up to that step
  pub up_to : Leaves k s (take (suc n) xs) (take (suc n) os)
  -- and by the whole run, in which nothing is accepted or handed over after it
  pub whole : Leaves k s xs os
  -- they are left for good
  pub stranded : stranded_in t ≡ Some k

-- so does every step that completed a shutdown
abbrev pub CountsStranded : {E : Type 0} → Machine E → List Step → List Outcome → Machine E → Type 0
CountsStranded s xs os t = (n k : ℕ) → slice_get os n ≡ Some (outcome.ShutDown k) → StrandsSpans n k s xs os t

-- from a new machine on what was accepted is what was handed over, and those that were left behind
abbrev pub AllAreCounted : List Step → List Outcome → Type 0
AllAreCounted xs os =
    (n k : ℕ) → slice_get os n ≡ Some (outcome.ShutDown k) →
    length (accepted (λ p. []) xs os) ≡ sum (batch_sizes os) + k
