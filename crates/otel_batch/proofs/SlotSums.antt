use Rattle.std.proofs.Common.{◌≡◌, ◌≢◌, Result, ◌∙◌, sym, ℕ, ◌+◌, ◌<◌, ◌≤◌, List, length, Option, Some, None, inl, inr, refl, true, slice_get, slice_set, arith, sum_by}
use Rattle.std.proofs.lemmas.List.Sums.{sum_by-set, sum_by-le}
use Rattle.std.proofs.Math.Dec.{ltb}
use Rattle.std.proofs.Math.ListN.{get_or}
use Rattle.std.proofs.lemmas.Bool.{ltb-true}
use Rattle.std.proofs.lemmas.Option.{get_or_from_slice_get, slice_get_cases, slice_get_read}
use Rattle.otel_batch.specs.declared.machine.state.Slot.{Slot}
use Rattle.otel_batch.specs.declared.machine.state.Slot.TheVariants.{Idle, Holding, Refused, Asking, Posting, Resetting, Waiting, Answered}
use Rattle.std.proofs.lemmas.Bool.Decides.{eqb_tells}
use Rattle.otel_batch.specs.declared.machine.state.Request.{Request}
use Rattle.otel_batch.specs.declared.machine.state.Message.TheVariants as message
use Rattle.otel_batch.specs.declared.machine.state.Request.TheVariants as request
use Rattle.otel_export.specs.declared.error.OTelSdkError.{OTelSdkError}
use Rattle.otel_batch.specs.Slots.{slot_counts, slot_asks, is_holding, is_answered}
use Rattle.otel_batch.specs.Workers.{why_names}
use Rattle.otel_batch.specs.Messages.{message_of, message_asks, message_names}
use Rattle.otel_batch.specs.declared.machine.state.Why.TheVariants as why
use Rattle.otel_export.specs.PlainSpanData.{PlainSpanData}

-- an index that has an element is within the list
pub slice_get-within : {X : Type 0} (xs : List X) (i : ℕ) (x : X) → slice_get xs i ≡ Some x → i < length xs
slice_get-within xs i x e =
    elim (slice_get_cases xs i).1 [ inl found ↦ found.1 | inr past ↦ absurd (let h : None ≡ Some x = sym past.1 ∙ e in cc) ]

-- the slot that a read found is there
pub slot_found : (read slots : List Slot) (p : ℕ) (found slot : Slot) → read ≡ slots → true ≡ ltb p (length read) →
    found ≡ get_or read p found → found ≡ slot → slice_get slots p ≡ Some slot
slot_found read slots p found slot same within at is =
    rw (← same, ← is) (slice_get_read read (length read) p found refl (ltb-true p (length read) (sym within)) at)

-- the sum after one slot changed
pub sum_by-slot : (f : Slot → ℕ) (xs : List Slot) (p : ℕ) (old new : Slot) → slice_get xs p ≡ Some old →
    sum_by f (slice_set xs p new) + f old ≡ sum_by f xs + f new
sum_by-slot f xs p old new e =
    let lt : p < length xs = slice_get-within xs p old e in
    rw (get_or_from_slice_get xs p old old e) at (sum_by-set f xs p new old lt)

pub counts_slot : (xs : List Slot) (p : ℕ) (old new : Slot) → slice_get xs p ≡ Some old →
    sum_by slot_counts (slice_set xs p new) + slot_counts old ≡ sum_by slot_counts xs + slot_counts new
counts_slot = sum_by-slot slot_counts

pub asks_slot : (xs : List Slot) (p : ℕ) (old new : Slot) → slice_get xs p ≡ Some old →
    sum_by slot_asks (slice_set xs p new) + slot_asks old ≡ sum_by slot_asks xs + slot_asks new
asks_slot = sum_by-slot slot_asks

pub slot_counts-le : (x : Slot) → slot_counts x ≤ 1
slot_counts-le Idle = omega arith
slot_counts-le (Holding span n) = omega arith
slot_counts-le Refused = omega arith
slot_counts-le Asking = omega arith
slot_counts-le Posting = omega arith
slot_counts-le Resetting = omega arith
slot_counts-le (Waiting r) = omega arith
slot_counts-le (Answered r) = omega arith

-- no more producers hold a span than there are
pub counts_le : (xs : List Slot) → sum_by slot_counts xs ≤ length xs
counts_le xs = omega (arith, sum_by-le slot_counts 1 xs (λ k d h. slot_counts-le _))

-- what a step that changes one slot needs of the sums
pub ruleset slot_sums = (counts_slot, asks_slot, counts_le)

-- a slot that holds a span, with the span
pub is_holding-slot : (o : Option Slot) → is_holding o ≡ true → (span : PlainSpanData) × (n : ℕ) × (o ≡ Some (Holding span n))
is_holding-slot None h = cc
is_holding-slot (Some (Holding span n)) h = (span, n, refl)
is_holding-slot (Some Idle) h = cc
is_holding-slot (Some Refused) h = cc
is_holding-slot (Some Asking) h = cc
is_holding-slot (Some Posting) h = cc
is_holding-slot (Some Resetting) h = cc
is_holding-slot (Some (Waiting r)) h = cc
is_holding-slot (Some (Answered r)) h = cc

pub message_of-asks : (r : Request) (p : ℕ) → message_asks (message_of r p) ≡ 0
message_of-asks request.Flush p = refl
message_of-asks request.Shutdown p = refl

pub message_of-own : (r : Request) (p : ℕ) → message_names p (message_of r p) ≡ 1
message_of-own request.Flush p = elim (eqb_tells p p) [ inl same ↦ rw same.0 | inr other ↦ absurd (other.1 refl) ]
message_of-own request.Shutdown p = elim (eqb_tells p p) [ inl same ↦ rw same.0 | inr other ↦ absurd (other.1 refl) ]

pub message_of-others : (r : Request) (p q : ℕ) → q ≢ p → message_names q (message_of r p) ≡ 0
message_of-others request.Flush p q n = elim (eqb_tells p q) [ inl same ↦ absurd (n (sym same.1)) | inr other ↦ rw other.0 ]
message_of-others request.Shutdown p q n = elim (eqb_tells p q) [ inl same ↦ absurd (n (sym same.1)) | inr other ↦ rw other.0 ]

-- a slot that has an answer, with the answer
pub is_answered-slot : (o : Option Slot) → is_answered o ≡ true → (r : Result (Unit {0}) OTelSdkError) × (o ≡ Some (Answered r))
is_answered-slot None h = cc
is_answered-slot (Some (Holding span n)) h = cc
is_answered-slot (Some Idle) h = cc
is_answered-slot (Some Refused) h = cc
is_answered-slot (Some Asking) h = cc
is_answered-slot (Some Posting) h = cc
is_answered-slot (Some Resetting) h = cc
is_answered-slot (Some (Waiting r)) h = cc
is_answered-slot (Some (Answered r)) h = (r, refl)

-- a drain is for one producer at most
pub one_flush : (p : ℕ) → why_names p (why.Flush p) ≡ 1
one_flush p = elim (eqb_tells p p) [ inl same ↦ rw same.0 | inr other ↦ absurd (other.1 refl) ]

pub one_shutdown : (p : ℕ) → why_names p (why.Shutdown p) ≡ 1
one_shutdown p = elim (eqb_tells p p) [ inl same ↦ rw same.0 | inr other ↦ absurd (other.1 refl) ]

pub other_flush : (p q : ℕ) → q ≢ p → why_names q (why.Flush p) ≡ 0
other_flush p q n = elim (eqb_tells p q) [ inl same ↦ absurd (n (sym same.1)) | inr other ↦ rw other.0 ]

pub other_shutdown : (p q : ℕ) → q ≢ p → why_names q (why.Shutdown p) ≡ 0
other_shutdown p q n = elim (eqb_tells p q) [ inl same ↦ absurd (n (sym same.1)) | inr other ↦ rw other.0 ]

pub message_flush : (p : ℕ) → message_names p (message.Flush p) ≡ 1
message_flush p = message_of-own request.Flush p

pub message_shutdown : (p : ℕ) → message_names p (message.Shutdown p) ≡ 1
message_shutdown p = message_of-own request.Shutdown p

pub others_flush : (p q : ℕ) → q ≢ p → message_names q (message.Flush p) ≡ 0
others_flush p q n = message_of-others request.Flush p q n

pub others_shutdown : (p q : ℕ) → q ≢ p → message_names q (message.Shutdown p) ≡ 0
others_shutdown p q n = message_of-others request.Shutdown p q n
