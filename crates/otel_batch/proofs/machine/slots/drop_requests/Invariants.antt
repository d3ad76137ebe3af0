use Rattle.std.proofs.Common.{◌≡◌, length}
use Rattle.otel_batch.proofs.Dropping.{Dropping}
use Rattle.otel_batch.proofs.machine.slots.drop_requests.Given as goal

abbrev pub invariant-loop-message : goal.invariant-loop-message
invariant-loop-message l = record {
  dropping : Dropping l.fn.messages.items l.messages.items l.fn.slots.items l.slots.items;
  capacity : l.messages.capacity ≡ l.fn.messages.capacity;
}

abbrev pub decreases-loop-message : goal.decreases-loop-message
decreases-loop-message l = length l.messages.items
