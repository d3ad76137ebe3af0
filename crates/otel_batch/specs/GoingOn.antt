-- The worker of a batch queue goes on until it is gone.
use Rattle.std.specs.Prelude.{◌≡◌, Bool, true, false}
use Rattle.otel_batch.specs.Workers.{is_gone}
use Rattle.otel_batch.specs.MachineState.{Counts}
use Rattle.otel_batch.specs.declared.machine.state.Worker.{Worker}
use Rattle.otel_batch.specs.declared.machine.state.Worker.TheVariants as worker
use Rattle.otel_batch.specs.declared.machine.step.Outcome.{Outcome}
use Rattle.otel_batch.specs.declared.machine.step.Outcome.TheVariants as outcome
use Rattle.otel_batch.specs.declared.machine.step.Step.{Step}
use Rattle.otel_batch.specs.declared.machine.step.Step.TheVariants as step

-- the outcome is that of a step that was enabled
abbrev pub is_enabled : Outcome → Bool
is_enabled outcome.NotEnabled = false
is_enabled _ = true

-- the worker's next step, until it is gone
abbrev pub next_step : Worker → Step
next_step worker.Ready = step.Take
next_step worker.Clearing = step.Clear
next_step (worker.Loading why) = step.Load
next_step worker.Pulling = step.Pull
next_step worker.Handing = step.HandOver
next_step (worker.Subtracting k) = step.Subtract
next_step worker.Finishing = step.Finish
next_step (worker.Closing p) = step.Close
next_step worker.Gone = step.Take

-- until the worker is gone, its next step is enabled
abbrev pub GoesOn : Counts → Step → Outcome → Type 0
GoesOn s x o = x ≡ next_step s.control.worker → is_gone s.control.worker ≡ false → is_enabled o ≡ true
