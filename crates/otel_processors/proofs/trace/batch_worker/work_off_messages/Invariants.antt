use Rattle.std.proofs.Common.{◌≡◌, List, None}
use Rattle.std.specs.Result.{result_err}
use Rattle.otel_batch.specs.MachineState.{counts}
use Rattle.otel_batch.specs.MachineRun.{counted_up}
use Rattle.otel_batch.specs.WorkLeft.{work_left}
use Rattle.otel_batch.specs.declared.machine.step.Outcome.{Outcome}
use Rattle.otel_batch.specs.declared.machine.step.Step.{Step}
use Rattle.otel_batch.specs.WorkedOff.{GoesBy, last_error, next_of_worker}
use Rattle.otel_processors.specs.EagerExports.{failures_in}
use Rattle.otel_processors.proofs.trace.batch_worker.work_off_messages.Given as goal

abbrev pub invariant-loop-step : goal.invariant-loop-step
invariant-loop-step g l = record {
  -- the steps so far, the answer of the last drain among them, and how many exports failed
  so_far : (xs : List Step) × (os : List Outcome)
      × GoesBy g.E.SpanExporter next_of_worker l.fn.machine xs os l.machine
      × (result_err l.answer ≡ last_error None os)
      × (l.count ≡ counted_up 0 (failures_in os));
}

abbrev pub decreases-loop-step : goal.decreases-loop-step
decreases-loop-step g l = work_left (counts l.machine)
