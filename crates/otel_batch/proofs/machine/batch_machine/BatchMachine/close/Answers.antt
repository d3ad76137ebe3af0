use Rattle.std.proofs.Common.{arith, ◌∙◌, ◌≡◌, Ok, sum_by, slice_get, slice_set}
use Rattle.std.proofs.lemmas.Option.{slice_get_within}
use Rattle.otel_batch.specs.declared.machine.state.Slot.TheVariants.{Answered, Waiting}
use Rattle.otel_batch.specs.Slots.{slot_waits}
use Rattle.otel_batch.specs.Messages.{message_names}
use Rattle.otel_batch.proofs.Closing.{closing_awaits, closing_others, sound_closed}
use Rattle.otel_batch.proofs.machine.batch_machine.BatchMachine.close.Goals as goal

pub set_slot-requires : goal.set_slot-requires
set_slot-requires g c =
    let waits = closing_awaits _ _ _ _ _ c.in-Closing.p c.in-Closing.is c.self.invariant.sound.awaited in
    slice_get_within c.self.inside.slots.items c.in-Closing.p (Waiting waits.0) waits.1

pub drop_requests-requires : goal.drop_requests-requires
drop_requests-requires g c = λ q.
    let same : sum_by (message_names q) c.self.inside.messages.items ≡ slot_waits (slice_get (slice_set c.self.inside.slots.items c.in-Closing.p (Answered (Ok tt))) q) =
    closing_others _ _ _ _ _ c.in-Closing.p (Ok tt) c.in-Closing.is c.self.invariant.sound.awaited q in
    rw c.set_slot.ensures (omega (arith, same))

pub invariant_of-self : goal.invariant_of-self
invariant_of-self g c =
    rw c.drop_requests.ensures.empty (record {
      sound = sound_closed _ c.in-Closing.p c.drop_requests.new.slots.items c.in-Closing.is
          (λ q. rw c.set_slot.ensures at (c.drop_requests.ensures.dropped q))
          (rw c.set_slot.ensures at c.drop_requests.ensures.len)
          (rw c.set_slot.ensures at c.drop_requests.ensures.counts)
          (rw c.set_slot.ensures at c.drop_requests.ensures.asks)
          c.self.invariant.sound;
      room = record { hand = λ f. cc; control = c.drop_requests.ensures.capacity ∙ c.self.invariant.room.control };
    })
