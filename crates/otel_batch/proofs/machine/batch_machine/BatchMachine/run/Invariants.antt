use Rattle.std.proofs.Common.{◌≡◌, ◌+◌, ◌≤◌, List, ◌++◌, length, vec_len, vec_capacity}
use Rattle.std.specs.Vec.Iter.{into_iter_items, into_iter_len}
use Rattle.otel_batch.specs.MachineRun.{Run, added}
use Rattle.otel_batch.specs.declared.machine.step.Outcome.{Outcome}
use Rattle.otel_batch.proofs.machine.batch_machine.BatchMachine.run.Given as goal

abbrev pub invariant-loop-step : goal.invariant-loop-step
invariant-loop-step g l = record {
  -- whatever the rest does from here, the whole did from the start
  goes_on : (os : List Outcome) (t : _) →
      Run g.E.SpanExporter l.self (into_iter_items l.rest) os t →
      Run g.E.SpanExporter l.fn.self l.fn.steps.items (added l.fn.outcomes.items l.outcomes.items ++ os) t;
  kept : l.outcomes.items ≡ l.fn.outcomes.items ++ added l.fn.outcomes.items l.outcomes.items;
  longer : length l.fn.outcomes.items ≤ length l.outcomes.items;
  room : vec_len l.outcomes + into_iter_len l.rest ≤ vec_capacity l.outcomes;
}

abbrev pub decreases-loop-step : goal.decreases-loop-step
decreases-loop-step g l = into_iter_len l.rest
