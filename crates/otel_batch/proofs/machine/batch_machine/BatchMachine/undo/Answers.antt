use Rattle.std.proofs.Common.{arith, ◌≡◌, ◌≤◌, Some, slice_get, slice_set}
use Rattle.otel_batch.specs.declared.machine.state.Slot.TheVariants.{Idle, Refused}
use Rattle.otel_batch.proofs.SlotSums.{counts_slot}
use Rattle.otel_batch.proofs.Soundness.{sound_slot}
use Rattle.otel_batch.proofs.machine.batch_machine.BatchMachine.undo.Goals as goal

pub overflow_sub-self : goal.overflow_sub-self
overflow_sub-self g c =
    let at : slice_get c.self.inside.slots.items c.args.p ≡ Some Refused = rw c.deref.ensures.value at (c.is_refused.ensures.found c.if-not-is_refused.false) in
    omega (arith, counts_slot c.self.inside.slots.items c.args.p Refused Idle at, c.self.invariant.sound.counted.total)

pub invariant_of-self : goal.invariant_of-self
invariant_of-self g c =
    let at : slice_get c.self.inside.slots.items c.args.p ≡ Some Refused = rw c.deref.ensures.value at (c.is_refused.ensures.found c.if-not-is_refused.false) in
    let now : c.set_slot.new.slots.items ≡ slice_set c.self.inside.slots.items c.args.p Idle = c.set_slot.ensures in
    let some : 1 ≤ c.self.inside.counter = omega (arith, counts_slot c.self.inside.slots.items c.args.p Refused Idle at, c.self.invariant.sound.counted.total) in
    rw now (record { sound = sound_slot _ c.args.p Refused Idle at c.self.invariant.sound _ _ _ (omega (arith, some)) (omega arith) (omega arith) c.self.invariant.sound.fits.waiting_fits c.self.invariant.sound.fits.dropped_fits; room = c.self.invariant.room })
