-- What a producer of a batch queue is at.
use Rattle.std.specs.Prelude.{ℕ, Bool, true, false, Option, Some, List, [], ◌∷◌}
use Rattle.otel_export.specs.PlainSpanData.{PlainSpanData}
use Rattle.otel_batch.specs.declared.machine.state.Slot.{Slot}
use Rattle.otel_batch.specs.declared.machine.state.Slot.TheVariants as slot

-- the slot is there, and idle; and so on for the others
abbrev pub is_idle : Option Slot → Bool
is_idle (Some slot.Idle) = true
is_idle _ = false

abbrev pub is_holding : Option Slot → Bool
is_holding (Some (slot.Holding span n)) = true
is_holding _ = false

abbrev pub is_refused : Option Slot → Bool
is_refused (Some slot.Refused) = true
is_refused _ = false

abbrev pub is_asking : Option Slot → Bool
is_asking (Some slot.Asking) = true
is_asking _ = false

abbrev pub is_posting : Option Slot → Bool
is_posting (Some slot.Posting) = true
is_posting _ = false

abbrev pub is_resetting : Option Slot → Bool
is_resetting (Some slot.Resetting) = true
is_resetting _ = false

abbrev pub is_answered : Option Slot → Bool
is_answered (Some (slot.Answered answer)) = true
is_answered _ = false

-- the span that a slot holds
abbrev pub span_held : Option Slot → List PlainSpanData
span_held (Some (slot.Holding span n)) = span ∷ []
span_held _ = []

-- the counter as it was when the slot took its span
abbrev pub number_held : Option Slot → ℕ
number_held (Some (slot.Holding span n)) = n
number_held _ = 0

-- how much of the counter a slot accounts for: its span is counted until it is in the queue, or its refusal undone
abbrev pub slot_counts : Slot → ℕ
slot_counts (slot.Holding span n) = 1
slot_counts slot.Refused = 1
slot_counts _ = 0

-- how many wishes to export are at a slot
abbrev pub slot_asks : Slot → ℕ
slot_asks slot.Posting = 1
slot_asks slot.Resetting = 1
slot_asks _ = 0

-- how many answers a producer waits for
abbrev pub slot_waits : Option Slot → ℕ
slot_waits (Some (slot.Waiting request)) = 1
slot_waits _ = 0
