use Rattle.std.proofs.Common.{arith, ◌≡◌, ◌+◌, Some, slice_get, slice_set}
use Rattle.std.proofs.lemmas.Grind.{common_steps}
use Rattle.otel_batch.specs.declared.machine.state.Slot.TheVariants.{Idle, Holding}
use Rattle.otel_batch.proofs.Soundness.{sound_slot}
use Rattle.otel_batch.proofs.machine.batch_machine.BatchMachine.offer.Goals as goal

pub invariant_of-self : goal.invariant_of-self
invariant_of-self g c =
    let at : slice_get c.self.inside.slots.items c.args.p ≡ Some Idle = rw c.deref.ensures.value at (c.is_idle.ensures.found c.if-not-is_idle.false) in
    let now : c.set_slot.new.slots.items ≡ slice_set c.self.inside.slots.items c.args.p (Holding c.args.span (c.self.inside.counter + 1)) = c.set_slot.ensures in
    rw now (record { sound = sound_slot _ c.args.p Idle (Holding c.args.span (c.self.inside.counter + 1)) at c.self.invariant.sound _ _ _ (omega arith) (omega arith) (omega arith) c.self.invariant.sound.fits.waiting_fits c.self.invariant.sound.fits.dropped_fits; room = c.self.invariant.room })

pub returns-then-not-is_sampled-clause-row : goal.returns-then-not-is_sampled-clause-row
returns-then-not-is_sampled-clause-row g c =
    let at : slice_get c.self.inside.slots.items c.args.p ≡ Some Idle = rw c.deref.ensures.value at (c.is_idle.ensures.found c.if-not-is_idle.false) in
    grind (arith, common_steps, at)

pub returns-clause-row : goal.returns-clause-row
returns-clause-row g c =
    let at : slice_get c.self.inside.slots.items c.args.p ≡ Some Idle = rw c.deref.ensures.value at (c.is_idle.ensures.found c.if-not-is_idle.false) in
    grind (arith, common_steps, at)
