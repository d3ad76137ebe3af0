use Rattle.std.proofs.Common.{arith, ◌≡◌, ◌<◌, Some, slice_get, length}
use Rattle.otel_batch.specs.declared.machine.state.Slot.TheVariants.{Idle, Posting, Resetting}
use Rattle.otel_batch.specs.declared.machine.state.Message.TheVariants.{Export}
use Rattle.otel_batch.proofs.Soundness.{sound_slot, sound_posted}
use Rattle.otel_batch.proofs.machine.batch_machine.BatchMachine.post.Goals as goal

pub invariant_of-self : goal.invariant_of-self
invariant_of-self g c =
    let at : slice_get c.self.inside.slots.items c.args.p ≡ Some Posting = rw c.deref.ensures.value at (c.is_posting.ensures.found c.if-not-is_posting.false) in
    rw c.set_slot.ensures (record { sound = sound_slot _ c.args.p Posting Resetting at c.self.invariant.sound _ _ _ (omega arith) (omega arith) (omega arith) c.self.invariant.sound.fits.waiting_fits c.self.invariant.sound.fits.dropped_fits; room = c.self.invariant.room })

pub invariant_of-self-then-not-post_message : goal.invariant_of-self-then-not-post_message
invariant_of-self-then-not-post_message g c =
    let at : slice_get c.self.inside.slots.items c.args.p ≡ Some Posting = rw c.deref.ensures.value at (c.is_posting.ensures.found c.if-not-is_posting.false) in
    rw (c.set_slot-then-not-post_message.ensures, (c.post_message.ensures.full c.if-not-post_message.true).1) (record { sound = sound_slot _ c.args.p Posting Resetting at c.self.invariant.sound _ _ _ (omega arith) (omega arith) (omega arith) c.self.invariant.sound.fits.waiting_fits c.self.invariant.sound.fits.dropped_fits; room = c.self.invariant.room })

pub invariant_of-self-2 : goal.invariant_of-self-2
invariant_of-self-2 g c =
    let at : slice_get c.self.inside.slots.items c.args.p ≡ Some Posting = rw c.deref.ensures.value at (c.is_posting.ensures.found c.if-not-is_posting.false) in
    let posted = c.post_message.ensures.posted c.if-not-post_message.false in
    let room : length c.self.inside.messages.items < 64 = rw c.self.invariant.room.control at posted.0 in
    rw (c.set_slot-2.ensures, posted.1) (record { sound = sound_posted _ c.args.p Posting Idle at c.self.invariant.sound Export c.if-self.false room (omega arith) (omega arith) (λ q n. omega arith) (omega arith); room = c.self.invariant.room })
