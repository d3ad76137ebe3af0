use Rattle.std.proofs.Common.{◌≡◌, ◌≢◌, ◌⊎◌, inl, inr, ◌∙◌, ap, refl, zero, suc, ℕ, ◌<◌, ◌≤◌, List, [], ◌∷◌, length, drop, Option, Some, slice_get, slice_set, arith, sum_by}
use Rattle.std.proofs.Math.ListN.{length-set}
use Rattle.std.proofs.lemmas.List.Sums.{sum_by-cons}
use Rattle.std.proofs.lemmas.Bool.Decides.{eqb_tells}
use Rattle.std.proofs.lemmas.Option.{slice_get_within}
use Rattle.circular_buffer.proofs.Places.{slice_get-set_same, slice_get-set_other}
use Rattle.otel_batch.specs.declared.machine.state.Slot.{Slot}
use Rattle.otel_batch.specs.declared.machine.state.Slot.TheVariants.{Idle, Holding, Refused, Asking, Posting, Resetting, Waiting, Answered}
use Rattle.otel_batch.specs.declared.machine.state.Message.{Message}
use Rattle.otel_batch.specs.declared.machine.state.Request.{Request}
use Rattle.otel_batch.specs.Slots.{slot_counts, slot_asks, slot_waits}
use Rattle.otel_batch.specs.Messages.{message_names}
use Rattle.otel_batch.specs.DrainEnds.{IsDropped, SaysDropped}
use Rattle.otel_batch.proofs.SlotSums.{counts_slot, asks_slot}
use Rattle.otel_batch.proofs.Soundness.{slot_waits-one}

-- where the dropping of requests is, between the messages and slots at its start and those now
pub record Dropping (ms0 ms : List Message) (slots0 slots : List Slot) : Type 0 where
  pub each : (p : ℕ) →
      (sum_by (message_names p) ms ≡ sum_by (message_names p) ms0) × (slice_get slots p ≡ slice_get slots0 p)
      ⊎ (sum_by (message_names p) ms ≡ 0) × IsDropped (sum_by (message_names p) ms0) (slice_get slots0 p) (slice_get slots p)
  pub waits : (p : ℕ) → sum_by (message_names p) ms ≤ slot_waits (slice_get slots p)
  pub len : length slots ≡ length slots0
  pub counts : sum_by slot_counts slots ≡ sum_by slot_counts slots0
  pub asks : sum_by slot_asks slots ≡ sum_by slot_asks slots0

-- a message without a request changes nothing
pub dropping_other : (ms0 ms : List Message) (m : Message) (slots0 slots : List Slot) → ((p : ℕ) → message_names p m ≡ 0) →
    Dropping ms0 (m ∷ ms) slots0 slots → Dropping ms0 ms slots0 slots
dropping_other ms0 ms m slots0 slots free h =
    let same : (p : ℕ) → sum_by (message_names p) ms ≡ sum_by (message_names p) (m ∷ ms) = λ p. omega (arith, sum_by-cons (message_names p) m ms, free p) in
    record {
      each = λ p. elim (h.each p) [ inl left ↦ inl (same p ∙ left.0, left.1) | inr right ↦ inr (same p ∙ right.0, right.1) ];
      waits = λ p. omega (arith, same p, h.waits p);
      len = h.len;
      counts = h.counts;
      asks = h.asks;
    }

-- one who has a request waits
pub dropping_waits : (ms0 ms : List Message) (m : Message) (slots0 slots : List Slot) (p : ℕ) → message_names p m ≡ 1 →
    Dropping ms0 (m ∷ ms) slots0 slots → (r : Request) × (slice_get slots p ≡ Some (Waiting r)) × (slot_waits (slice_get slots p) ≡ 1)
dropping_waits ms0 ms m slots0 slots p own h =
    slot_waits-one (slice_get slots p) (omega (arith, sum_by-cons (message_names p) m ms, own, h.waits p))

IsDropped-one : (n : ℕ) (old new : Option Slot) → n ≡ 1 → SaysDropped new → IsDropped n old new
IsDropped-one zero old new one says = absurd (omega arith)
IsDropped-one (suc n) old new one says = says

-- a slot that says so is counted nowhere, and wishes nothing
says_dropped-counts : (x : Slot) → SaysDropped (Some x) → slot_counts x ≡ 0
says_dropped-counts Idle says = absurd says
says_dropped-counts (Holding span n) says = absurd says
says_dropped-counts Refused says = absurd says
says_dropped-counts Asking says = absurd says
says_dropped-counts Posting says = absurd says
says_dropped-counts Resetting says = absurd says
says_dropped-counts (Waiting r) says = absurd says
says_dropped-counts (Answered r) says = refl

says_dropped-asks : (x : Slot) → SaysDropped (Some x) → slot_asks x ≡ 0
says_dropped-asks Idle says = absurd says
says_dropped-asks (Holding span n) says = absurd says
says_dropped-asks Refused says = absurd says
says_dropped-asks Asking says = absurd says
says_dropped-asks Posting says = absurd says
says_dropped-asks Resetting says = absurd says
says_dropped-asks (Waiting r) says = absurd says
says_dropped-asks (Answered r) says = refl

-- a request is dropped
pub dropping_one : (ms0 ms : List Message) (m : Message) (slots0 slots : List Slot) (p : ℕ) (new : Slot) →
    message_names p m ≡ 1 → ((q : ℕ) → q ≢ p → message_names q m ≡ 0) → SaysDropped (Some new) →
    Dropping ms0 (m ∷ ms) slots0 slots → Dropping ms0 ms slots0 (slice_set slots p new)
dropping_one ms0 ms m slots0 slots p new own others says h =
    let count = says_dropped-counts new says in
    let ask = says_dropped-asks new says in
    let w = dropping_waits ms0 ms m slots0 slots p own h in
    let lt : p < length slots = slice_get_within slots p (Waiting w.0) w.1 in
    let gone : sum_by (message_names p) ms ≡ 0 = omega (arith, sum_by-cons (message_names p) m ms, own, h.waits p, w.2) in
    let first : sum_by (message_names p) ms0 ≡ 1 = elim (h.each p) [
      | inl left ↦ omega (arith, left.0, sum_by-cons (message_names p) m ms, own, gone)
      | inr right ↦ absurd (omega (arith, right.0, sum_by-cons (message_names p) m ms, own))
    ] in
    let same : (q : ℕ) → q ≢ p → sum_by (message_names q) ms ≡ sum_by (message_names q) (m ∷ ms) = λ q n. omega (arith, sum_by-cons (message_names q) m ms, others q n) in
    record {
      each = λ q. elim (eqb_tells q p) [
        | inl eq ↦ inr (rw eq.1 gone, rw (eq.1, slice_get-set_same slots p new lt) (IsDropped-one (sum_by (message_names p) ms0) (slice_get slots0 p) (Some new) first says))
        | inr ne ↦ elim (h.each q) [
          | inl left ↦ inl (same q ne.1 ∙ left.0, slice_get-set_other slots p q new ne.1 ∙ left.1)
          | inr right ↦ inr (same q ne.1 ∙ right.0, rw (slice_get-set_other slots p q new ne.1) right.1)
        ]
      ];
      waits = λ q. elim (eqb_tells q p) [
        | inl eq ↦ rw eq.1 (omega (arith, gone))
        | inr ne ↦ rw (slice_get-set_other slots p q new ne.1) (omega (arith, same q ne.1, h.waits q))
      ];
      len = length-set slots p new ∙ h.len;
      counts = omega (arith, counts_slot slots p (Waiting w.0) new w.1, h.counts, count);
      asks = omega (arith, asks_slot slots p (Waiting w.0) new w.1, h.asks, ask);
    }

-- the end
pub dropped_all : (ms0 ms : List Message) (slots0 slots : List Slot) (p : ℕ) → ms ≡ [] → Dropping ms0 ms slots0 slots →
    IsDropped (sum_by (message_names p) ms0) (slice_get slots0 p) (slice_get slots p)
dropped_all ms0 ms slots0 slots p end h = elim (h.each p) [
  | inl left ↦ rw (← left.0, end) left.1
  | inr right ↦ right.1
]

-- a list by its first element
pub first_and_rest : {X : Type 0} (xs : List X) (x : X) → slice_get xs 0 ≡ Some x → xs ≡ x ∷ drop 1 xs
first_and_rest [] x e = cc
first_and_rest (y ∷ ys) x e = let same : y ≡ x = cc in ap (λ z. z ∷ ys) same
