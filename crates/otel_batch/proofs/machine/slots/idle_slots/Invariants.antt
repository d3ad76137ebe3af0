use Rattle.std.proofs.Common.{◌≡◌, ◌≤◌, replicate, vec_len, vec_capacity}
use Rattle.otel_batch.specs.declared.machine.state.Slot.TheVariants.{Idle}
use Rattle.otel_batch.proofs.machine.slots.idle_slots.Given as goal

abbrev pub invariant-loop-i : goal.invariant-loop-i
invariant-loop-i l = record {
  items : l.slots.items ≡ replicate l.i Idle;
  len : vec_len l.slots ≡ l.i;
  room : l.producers ≤ vec_capacity l.slots;
}
