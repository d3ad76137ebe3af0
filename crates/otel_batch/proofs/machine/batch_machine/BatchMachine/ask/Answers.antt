use Rattle.std.proofs.Common.{arith, ◌≡◌, Some, slice_get}
use Rattle.otel_batch.specs.declared.machine.state.Slot.TheVariants.{Idle, Asking}
use Rattle.otel_batch.proofs.Soundness.{sound_slot, sound_may_post}
use Rattle.otel_batch.proofs.machine.batch_machine.BatchMachine.ask.Goals as goal

pub invariant_of-self : goal.invariant_of-self
invariant_of-self g c =
    let at : slice_get c.self.inside.slots.items c.args.p ≡ Some Asking = rw c.deref.ensures.value at (c.is_asking.ensures.found c.if-not-is_asking.false) in
    rw c.set_slot.ensures (record { sound = sound_slot _ c.args.p Asking Idle at c.self.invariant.sound _ _ _ (omega arith) (omega arith) (omega arith) c.self.invariant.sound.fits.waiting_fits c.self.invariant.sound.fits.dropped_fits; room = c.self.invariant.room })

pub invariant_of-self-2 : goal.invariant_of-self-2
invariant_of-self-2 g c =
    let at : slice_get c.self.inside.slots.items c.args.p ≡ Some Asking = rw c.deref.ensures.value at (c.is_asking.ensures.found c.if-not-is_asking.false) in
    rw c.set_slot-2.ensures (record { sound = sound_may_post _ c.args.p at c.if-self.false c.self.invariant.sound; room = c.self.invariant.room })
