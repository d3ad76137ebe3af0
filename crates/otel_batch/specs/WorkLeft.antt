-- How many steps the worker of a batch queue has left at most, while no producer takes one: a number that each of its
-- steps lessens, but for those that find nothing to do and those by which its timer starts a drain. So a loop that runs
-- the worker ends.
use Rattle.std.specs.Prelude.{ℕ, ◌+◌, ◌*◌, ◌&&◌, Bool, true, false, List, [], ◌∷◌, length, if◌then◌else◌}
use Rattle.otel_batch.specs.MachineState.{Counts}
use Rattle.otel_batch.specs.Drains.{is_workers}
use Rattle.otel_batch.specs.declared.machine.state.Worker.{Worker}
use Rattle.otel_batch.specs.declared.machine.state.Worker.TheVariants as worker
use Rattle.otel_batch.specs.declared.machine.step.Outcome.{Outcome}
use Rattle.otel_batch.specs.declared.machine.step.Outcome.TheVariants as outcome
use Rattle.otel_batch.specs.declared.machine.step.Step.{Step}

-- how many steps the worker takes at most up to its next message or its end, where it finds no further span
abbrev pub worker_work : Worker → ℕ
worker_work worker.Ready = 0
worker_work worker.Clearing = 5
worker_work (worker.Loading why) = 4
worker_work worker.Pulling = 3
worker_work worker.Handing = 5
worker_work (worker.Subtracting k) = 4
worker_work worker.Finishing = 2
worker_work (worker.Closing p) = 1
worker_work worker.Gone = 0

-- how many steps more the spans in hand take at most, three each: it is seen that no more wait, they are handed over,
-- and they are subtracted. A hand that is a batch is accounted for
abbrev pub hand_work : Worker → ℕ → ℕ
hand_work worker.Handing hand = 0
hand_work _ hand = 3 * hand

-- a message takes at most six steps of a drain that finds no span, and a span that waits four: its pull, and those of a
-- hand of its own
abbrev pub work_left : Counts → ℕ
work_left s =
    6 * length s.control.messages + 4 * s.waiting + hand_work s.control.worker s.hand + worker_work s.control.worker

-- the outcome is that of a step that was enabled and found something to do, but not that of the timer
abbrev pub is_work : Outcome → Bool
is_work outcome.NotEnabled = false
is_work outcome.Nothing = false
is_work outcome.Ticked = false
is_work _ = true

-- how many steps of a run were the worker's and found something to do
abbrev pub work_steps : List Step → List Outcome → ℕ
work_steps [] os = 0
work_steps (x ∷ xs) [] = 0
work_steps (x ∷ xs) (o ∷ os) = (if is_workers x && is_work o then 1 else 0) + work_steps xs os

-- what a step adds to the work that is left: an accepted span, a posted message, or a drain of the timer
abbrev pub adds_work : Outcome → ℕ
adds_work outcome.Accepted = 4
adds_work outcome.Posted = 6
adds_work outcome.Requested = 6
adds_work outcome.Ticked = 4
adds_work _ = 0

-- what the steps of a run add
abbrev pub work_added : List Outcome → ℕ
work_added [] = 0
work_added (o ∷ os) = adds_work o + work_added os
