use Rattle.std.proofs.Common.{arith, ◌≡◌, ◌<◌, Some, slice_get, length}
use Rattle.otel_batch.specs.declared.machine.state.Slot.TheVariants.{Idle, Waiting}
use Rattle.otel_batch.specs.Messages.{message_of}
use Rattle.otel_batch.proofs.SlotSums.{message_of-asks, message_of-own, message_of-others}
use Rattle.otel_batch.proofs.Soundness.{sound_posted}
use Rattle.otel_batch.proofs.machine.batch_machine.BatchMachine.request.Goals as goal

pub invariant_of-self-2 : goal.invariant_of-self-2
invariant_of-self-2 g c =
    let at : slice_get c.self.inside.slots.items c.args.p ≡ Some Idle = rw c.deref.ensures.value at (c.is_idle.ensures.found c.if-not-is_idle.false) in
    let posted = c.post_message.ensures.posted c.if-not-post_message.false in
    let room : length c.self.inside.messages.items < 64 = rw c.self.invariant.room.control at posted.0 in
    let sent : c.message_of.result ≡ message_of c.args.request c.args.p = c.message_of.ensures in
    rw (c.set_slot.ensures, posted.1, sent) (record {
      sound = sound_posted _ c.args.p Idle (Waiting c.args.request) at c.self.invariant.sound (message_of c.args.request c.args.p)
          c.if-self.false room (omega arith) (omega (arith, message_of-asks c.args.request c.args.p)) (λ q n. message_of-others c.args.request c.args.p q n) (omega (arith, message_of-own c.args.request c.args.p));
      room = c.self.invariant.room;
    })
