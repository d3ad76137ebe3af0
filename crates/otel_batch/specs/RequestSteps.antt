-- The part of the batch queue's table by which a producer asks for a flush or a shutdown and has its answer, and by
-- which a resource is posted.
use Rattle.std.specs.Prelude.{◌≡◌, ℕ, true, false, Some, [], ◌∷◌, ◌++◌, slice_set}
use Rattle.otel_resource.specs.Resource.{PlainResource}
use Rattle.otel_batch.specs.Slots.{is_idle, is_answered}
use Rattle.otel_batch.specs.Messages.{message_of}
use Rattle.otel_batch.specs.MachineState.{Counts, slot_at, is_crowded, put_slot}
use Rattle.otel_batch.specs.declared.machine.state.Slot.TheVariants as slot
use Rattle.otel_batch.specs.declared.machine.state.Message.TheVariants as message
use Rattle.otel_batch.specs.declared.machine.state.Request.{Request}
use Rattle.otel_batch.specs.declared.machine.step.Outcome.{Outcome}
use Rattle.otel_batch.specs.declared.machine.step.Outcome.TheVariants as outcome

-- a request goes last into the control queue, and its producer waits; else nothing changes
abbrev pub RequestRow : Counts → Request → ℕ → Outcome → Counts → Type 0
RequestRow s r p outcome.Closed t = (slot_at s p ≡ Some slot.Idle) × (s.control.closed ≡ true) × (t ≡ s)
RequestRow s r p outcome.Full t =
    (slot_at s p ≡ Some slot.Idle) × (s.control.closed ≡ false) × (is_crowded s ≡ true) × (t ≡ s)
RequestRow s r p outcome.Requested t =
    (slot_at s p ≡ Some slot.Idle)
    × (s.control.closed ≡ false)
    × (is_crowded s ≡ false)
    × (t ≡ record s {
      control = record s.control {
        messages = s.control.messages ++ message_of r p ∷ [];
        slots = slice_set s.control.slots p (slot.Waiting r);
      };
    })
RequestRow s r p outcome.NotEnabled t = (is_idle (slot_at s p) ≡ false) × (t ≡ s)
RequestRow s r p _ t = ⊥

-- the producer has its answer
abbrev pub CollectRow : Counts → ℕ → Outcome → Counts → Type 0
CollectRow s p (outcome.Collected answer) t =
    (slot_at s p ≡ Some (slot.Answered answer)) × (t ≡ put_slot s p slot.Idle)
CollectRow s p outcome.NotEnabled t = (is_answered (slot_at s p) ≡ false) × (t ≡ s)
CollectRow s p _ t = ⊥

-- the resource goes last into the control queue, or is dropped
abbrev pub ResourceRow : Counts → PlainResource → Outcome → Counts → Type 0
ResourceRow s resource outcome.Closed t = (s.control.closed ≡ true) × (t ≡ s)
ResourceRow s resource outcome.Full t = (s.control.closed ≡ false) × (is_crowded s ≡ true) × (t ≡ s)
ResourceRow s resource outcome.Posted t =
    (s.control.closed ≡ false)
    × (is_crowded s ≡ false)
    × (t ≡ record s {
      control = record s.control {
        messages = s.control.messages ++ message.Resource resource ∷ [];
      };
    })
ResourceRow s resource _ t = ⊥
