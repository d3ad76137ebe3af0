use Rattle.std.proofs.Common.{◌≡◌, Some, slice_get}
use Rattle.otel_batch.specs.declared.machine.state.Slot.TheVariants.{Resetting}
use Rattle.otel_batch.proofs.Soundness.{sound_reset}
use Rattle.otel_batch.proofs.machine.batch_machine.BatchMachine.reset.Goals as goal

pub invariant_of-self : goal.invariant_of-self
invariant_of-self g c =
    let at : slice_get c.self.inside.slots.items c.args.p ≡ Some Resetting = rw c.deref.ensures.value at (c.is_resetting.ensures.found c.if-not-is_resetting.false) in
    rw c.set_slot.ensures (record { sound = sound_reset _ c.args.p at c.self.invariant.sound; room = c.self.invariant.room })
