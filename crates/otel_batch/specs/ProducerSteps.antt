-- The part of the batch queue's table by which a producer brings its span into the queue, and asks for an export.
use Rattle.std.specs.Prelude.{◌≡◌, ℕ, ◌+◌, ◌-◌, ◌<◌, true, false, Some, [], ◌∷◌, ◌++◌, slice_set, nat_le, if◌then◌else◌}
use Rattle.otel_export.specs.PlainSpanData.{PlainSpanData, is_sampled}
use Rattle.otel_export.specs.StoredBatches.{one_more}
use Rattle.otel_batch.specs.Slots.{is_idle, is_holding, number_held, is_refused, is_asking, is_posting, is_resetting}
use Rattle.otel_batch.specs.MachineState.{Counts, slot_at, is_crowded, put_slot}
use Rattle.otel_batch.specs.declared.machine.state.Slot.{Slot}
use Rattle.otel_batch.specs.declared.machine.state.Slot.TheVariants as slot
use Rattle.otel_batch.specs.declared.machine.state.Message.TheVariants as message
use Rattle.otel_batch.specs.declared.machine.step.Outcome.{Outcome}
use Rattle.otel_batch.specs.declared.machine.step.Outcome.TheVariants as outcome

-- where the span is sampled it is counted, and the producer holds it with the new counter
abbrev pub OfferRow : Counts → ℕ → PlainSpanData → Outcome → Counts → Type 0
OfferRow s p span outcome.Skipped t = (slot_at s p ≡ Some slot.Idle) × (is_sampled span ≡ false) × (t ≡ s)
OfferRow s p span (outcome.Counted n) t =
    (slot_at s p ≡ Some slot.Idle)
    × (is_sampled span ≡ true)
    × (n ≡ s.control.counter + 1)
    × (t ≡ record s {
      control = record s.control {
        counter = n;
        slots = slice_set s.control.slots p (slot.Holding span n);
      };
    })
OfferRow s p span outcome.NotEnabled t = (is_idle (slot_at s p) ≡ false) × (t ≡ s)
OfferRow s p span _ t = ⊥

-- what is next for a producer whose span was accepted as the n-th that is accounted for: from the size of a batch on,
-- it wants an export
abbrev pub after_send : ℕ → ℕ → Slot
after_send batch_size n = if nat_le batch_size n then slot.Asking else slot.Idle

-- a span is accepted where the machine is open and the queue has room; it is refused where the machine is closed; and
-- it is refused and counted as dropped where as many wait as the size of the queue
abbrev pub SendRow : Counts → ℕ → Outcome → Counts → Type 0
SendRow s p outcome.Accepted t =
    (is_holding (slot_at s p) ≡ true)
    × (s.control.closed ≡ false)
    × (s.waiting < s.control.queue_size)
    × (t ≡ record s {
      waiting = s.waiting + 1;
      control = record s.control {
        slots = slice_set s.control.slots p (after_send s.control.batch_size (number_held (slot_at s p)));
      };
    })
SendRow s p outcome.Full t =
    (is_holding (slot_at s p) ≡ true)
    × (s.control.closed ≡ false)
    × (s.waiting ≡ s.control.queue_size)
    × (t ≡ record s {
      control = record s.control {
        dropped = one_more s.control.dropped;
        slots = slice_set s.control.slots p slot.Refused;
      };
    })
SendRow s p outcome.Closed t =
    (is_holding (slot_at s p) ≡ true) × (s.control.closed ≡ true) × (t ≡ put_slot s p slot.Refused)
SendRow s p outcome.NotEnabled t = (is_holding (slot_at s p) ≡ false) × (t ≡ s)
SendRow s p _ t = ⊥

-- the refused span is no longer counted
abbrev pub UndoRow : Counts → ℕ → Outcome → Counts → Type 0
UndoRow s p outcome.Undone t =
    (slot_at s p ≡ Some slot.Refused)
    × (t ≡ record s {
      control = record s.control {
        counter = s.control.counter - 1;
        slots = slice_set s.control.slots p slot.Idle;
      };
    })
UndoRow s p outcome.NotEnabled t = (is_refused (slot_at s p) ≡ false) × (t ≡ s)
UndoRow s p _ t = ⊥

-- who sets the flag may post the wish to export
abbrev pub AskRow : Counts → ℕ → Outcome → Counts → Type 0
AskRow s p outcome.AlreadyAsked t =
    (slot_at s p ≡ Some slot.Asking) × (s.control.flag ≡ true) × (t ≡ put_slot s p slot.Idle)
AskRow s p outcome.MayPost t =
    (slot_at s p ≡ Some slot.Asking)
    × (s.control.flag ≡ false)
    × (t ≡ record s {
      control = record s.control {
        flag = true;
        slots = slice_set s.control.slots p slot.Posting;
      };
    })
AskRow s p outcome.NotEnabled t = (is_asking (slot_at s p) ≡ false) × (t ≡ s)
AskRow s p _ t = ⊥

-- the wish goes last into the control queue, or is to be taken back
abbrev pub PostRow : Counts → ℕ → Outcome → Counts → Type 0
PostRow s p outcome.Closed t =
    (slot_at s p ≡ Some slot.Posting) × (s.control.closed ≡ true) × (t ≡ put_slot s p slot.Resetting)
PostRow s p outcome.Full t =
    (slot_at s p ≡ Some slot.Posting)
    × (s.control.closed ≡ false)
    × (is_crowded s ≡ true)
    × (t ≡ put_slot s p slot.Resetting)
PostRow s p outcome.Posted t =
    (slot_at s p ≡ Some slot.Posting)
    × (s.control.closed ≡ false)
    × (is_crowded s ≡ false)
    × (t ≡ record s {
      control = record s.control {
        messages = s.control.messages ++ message.Export ∷ [];
        slots = slice_set s.control.slots p slot.Idle;
      };
    })
PostRow s p outcome.NotEnabled t = (is_posting (slot_at s p) ≡ false) × (t ≡ s)
PostRow s p _ t = ⊥

-- the wish is taken back
abbrev pub ResetRow : Counts → ℕ → Outcome → Counts → Type 0
ResetRow s p outcome.ResetDone t =
    (slot_at s p ≡ Some slot.Resetting)
    × (t ≡ record s {
      control = record s.control {
        flag = false;
        slots = slice_set s.control.slots p slot.Idle;
      };
    })
ResetRow s p outcome.NotEnabled t = (is_resetting (slot_at s p) ≡ false) × (t ≡ s)
ResetRow s p _ t = ⊥
