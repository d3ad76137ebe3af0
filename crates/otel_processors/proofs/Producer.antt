-- What the producer does with a span that it was offered: the span goes last into the queue, or is refused, and nothing
-- else moves.
use Rattle.std.proofs.Common.{◌≡◌, ◌∙◌, refl, ap, ℕ, Bool, true, false, Option, Some, None, length, slice_get, slice_set, nat_le, if◌then◌else◌}
use Rattle.std.proofs.Math.ListN.{length-set}
use Rattle.circular_buffer.proofs.Places.{slice_get-set_same}
use Rattle.otel_export.specs.PlainSpanData.{PlainSpanData}
use Rattle.otel_batch.specs.Slots.{is_holding, is_refused, is_asking, is_posting, is_resetting, number_held}
use Rattle.otel_batch.specs.MachineState.{Counts, slot_at}
use Rattle.otel_batch.specs.ProducerSteps.{SendRow, UndoRow, AskRow, PostRow, ResetRow, after_send}
use Rattle.otel_batch.specs.PermittedStep.{IsPermitted}
use Rattle.otel_batch.specs.declared.machine.state.Slot.{Slot}
use Rattle.otel_batch.specs.declared.machine.state.Slot.TheVariants as slot
use Rattle.otel_batch.specs.declared.machine.step.Outcome.{Outcome}
use Rattle.otel_batch.specs.declared.machine.step.Outcome.TheVariants as outcome
use Rattle.otel_batch.specs.declared.machine.step.Step.{Step}
use Rattle.otel_batch.specs.declared.machine.step.Step.TheVariants as step
use Rattle.otel_batch.proofs.SlotSums.{slice_get-within}
use Rattle.otel_batch.specs.WorkedOff.{producers_next}

-- the producer is idle or at work with a span
abbrev pub is_at_work : Option Slot → Bool
is_at_work None = false
is_at_work (Some (slot.Waiting request)) = false
is_at_work (Some (slot.Answered answer)) = false
is_at_work _ = true

-- the first slot is new; all else that is seen here is the same
pub record PutsFirst (s t : Counts) (new : Slot) : Type 0 where
  pub slot : slot_at t 0 ≡ Some new
  pub slots : length t.control.slots ≡ length s.control.slots
  pub worker : t.control.worker ≡ s.control.worker
  pub closed : t.control.closed ≡ s.control.closed

puts : (s t : Counts) (old new : Slot) → slot_at s 0 ≡ Some old →
    t.control.slots ≡ slice_set s.control.slots 0 new → t.control.worker ≡ s.control.worker →
    t.control.closed ≡ s.control.closed → PutsFirst s t new
puts s t old new at slots worker closed = record {
  slot = ap (λ l. slice_get l 0) slots
      ∙ slice_get-set_same s.control.slots 0 new (slice_get-within s.control.slots 0 old at);
  slots = ap length slots ∙ length-set s.control.slots 0 new;
  worker = worker;
  closed = closed;
}

-- a step of the producer after its send
pub record GoesOnToIdle (s t : Counts) : Type 0 where
  pub new : Slot
  pub puts : PutsFirst s t new
  pub at_work : is_at_work (Some new) ≡ true
  pub holds_none : is_holding (Some new) ≡ false
  pub dropped : t.control.dropped ≡ s.control.dropped

undo_goes : (s : Counts) (o : Outcome) (t : Counts) → slot_at s 0 ≡ Some slot.Refused → UndoRow s 0 o t →
    GoesOnToIdle s t
undo_goes s outcome.Undone t at row = record {
  new = slot.Idle;
  puts = puts s t slot.Refused slot.Idle at (ap (λ c. c.control.slots) row.1) (ap (λ c. c.control.worker) row.1)
      (ap (λ c. c.control.closed) row.1);
  at_work = refl;
  holds_none = refl;
  dropped = ap (λ c. c.control.dropped) row.1;
}
undo_goes s outcome.NotEnabled t at row = absurd (let yes : is_refused (slot_at s 0) ≡ true = rw at refl in let no = row.0 in cc)
undo_goes s _ t at row = absurd row

ask_goes : (s : Counts) (o : Outcome) (t : Counts) → slot_at s 0 ≡ Some slot.Asking → AskRow s 0 o t →
    GoesOnToIdle s t
ask_goes s outcome.AlreadyAsked t at row = record {
  new = slot.Idle;
  puts = puts s t slot.Asking slot.Idle at (ap (λ c. c.control.slots) row.2) (ap (λ c. c.control.worker) row.2)
      (ap (λ c. c.control.closed) row.2);
  at_work = refl;
  holds_none = refl;
  dropped = ap (λ c. c.control.dropped) row.2;
}
ask_goes s outcome.MayPost t at row = record {
  new = slot.Posting;
  puts = puts s t slot.Asking slot.Posting at (ap (λ c. c.control.slots) row.2) (ap (λ c. c.control.worker) row.2)
      (ap (λ c. c.control.closed) row.2);
  at_work = refl;
  holds_none = refl;
  dropped = ap (λ c. c.control.dropped) row.2;
}
ask_goes s outcome.NotEnabled t at row = absurd (let yes : is_asking (slot_at s 0) ≡ true = rw at refl in let no = row.0 in cc)
ask_goes s _ t at row = absurd row

resets : (s t : Counts) → slot_at s 0 ≡ Some slot.Posting →
    t ≡ record s { control = record s.control { slots = slice_set s.control.slots 0 slot.Resetting } } →
    GoesOnToIdle s t
resets s t at is = record {
  new = slot.Resetting;
  puts = puts s t slot.Posting slot.Resetting at (ap (λ c. c.control.slots) is) (ap (λ c. c.control.worker) is)
      (ap (λ c. c.control.closed) is);
  at_work = refl;
  holds_none = refl;
  dropped = ap (λ c. c.control.dropped) is;
}

post_goes : (s : Counts) (o : Outcome) (t : Counts) → slot_at s 0 ≡ Some slot.Posting → PostRow s 0 o t →
    GoesOnToIdle s t
post_goes s outcome.Closed t at row = resets s t at row.2
post_goes s outcome.Full t at row = resets s t at row.3
post_goes s outcome.Posted t at row = record {
  new = slot.Idle;
  puts = puts s t slot.Posting slot.Idle at (ap (λ c. c.control.slots) row.3) (ap (λ c. c.control.worker) row.3)
      (ap (λ c. c.control.closed) row.3);
  at_work = refl;
  holds_none = refl;
  dropped = ap (λ c. c.control.dropped) row.3;
}
post_goes s outcome.NotEnabled t at row = absurd (let yes : is_posting (slot_at s 0) ≡ true = rw at refl in let no = row.0 in cc)
post_goes s _ t at row = absurd row

reset_goes : (s : Counts) (o : Outcome) (t : Counts) → slot_at s 0 ≡ Some slot.Resetting → ResetRow s 0 o t →
    GoesOnToIdle s t
reset_goes s outcome.ResetDone t at row = record {
  new = slot.Idle;
  puts = puts s t slot.Resetting slot.Idle at (ap (λ c. c.control.slots) row.1) (ap (λ c. c.control.worker) row.1)
      (ap (λ c. c.control.closed) row.1);
  at_work = refl;
  holds_none = refl;
  dropped = ap (λ c. c.control.dropped) row.1;
}
reset_goes s outcome.NotEnabled t at row = absurd (let yes : is_resetting (slot_at s 0) ≡ true = rw at refl in let no = row.0 in cc)
reset_goes s _ t at row = absurd row

-- the send of the span that the producer holds: what is in the slot after it, and whether a drop was counted
pub record Sends (s : Counts) (o : Outcome) (t : Counts) : Type 0 where
  pub new : Slot
  pub puts : PutsFirst s t new
  pub at_work : is_at_work (Some new) ≡ true
  pub holds_none : is_holding (Some new) ≡ false

sent : (s : Counts) (o : Outcome) (t : Counts) (span : PlainSpanData) (n : ℕ) (new : Slot) →
    slot_at s 0 ≡ Some (slot.Holding span n) → t.control.slots ≡ slice_set s.control.slots 0 new →
    t.control.worker ≡ s.control.worker → t.control.closed ≡ s.control.closed → is_at_work (Some new) ≡ true →
    is_holding (Some new) ≡ false → Sends s o t
sent s o t span n new at slots worker closed works holds = record {
  new = new;
  puts = puts s t (slot.Holding span n) new at slots worker closed;
  at_work = works;
  holds_none = holds;
}

pub send_goes : (s : Counts) (o : Outcome) (t : Counts) (span : PlainSpanData) (n : ℕ) →
    slot_at s 0 ≡ Some (slot.Holding span n) → SendRow s 0 o t → Sends s o t
send_goes s outcome.Accepted t span n at row =
    let next = after_send s.control.batch_size (number_held (slot_at s 0)) in
    let facts = asks (nat_le s.control.batch_size (number_held (slot_at s 0))) in
    sent s outcome.Accepted t span n next at (ap (λ c. c.control.slots) row.3) (ap (λ c. c.control.worker) row.3)
    (ap (λ c. c.control.closed) row.3) facts.0 facts.1
  where
    asks : (b : Bool) → (is_at_work (Some (if b then slot.Asking else slot.Idle)) ≡ true)
        × (is_holding (Some (if b then slot.Asking else slot.Idle)) ≡ false)
    asks true = (refl, refl)
    asks false = (refl, refl)
send_goes s outcome.Full t span n at row = sent s outcome.Full t span n slot.Refused at
    (ap (λ c. c.control.slots) row.3) (ap (λ c. c.control.worker) row.3) (ap (λ c. c.control.closed) row.3)
    refl refl
send_goes s outcome.Closed t span n at row = sent s outcome.Closed t span n slot.Refused at
    (ap (λ c. c.control.slots) row.2) (ap (λ c. c.control.worker) row.2) (ap (λ c. c.control.closed) row.2)
    refl refl
send_goes s outcome.NotEnabled t span n at row =
    absurd (let yes : is_holding (slot_at s 0) ≡ true = rw at refl in let no = row.0 in cc)
send_goes s _ t span n at row = absurd row

-- what is next of a slot, by the slot
same_step : (x y : Step) → Some y ≡ Some x → x ≡ y
same_step x y e = cc

pub next_goes : (s : Counts) (x : Step) (o : Outcome) (t : Counts) (at : Option Slot) → slot_at s 0 ≡ at →
    is_holding at ≡ false → producers_next at ≡ Some x → IsPermitted s x o t → GoesOnToIdle s t
next_goes s x o t (Some slot.Refused) is holds next row =
    undo_goes s o t is (rw (same_step x (step.Undo 0) next) at row)
next_goes s x o t (Some slot.Asking) is holds next row =
    ask_goes s o t is (rw (same_step x (step.Ask 0) next) at row)
next_goes s x o t (Some slot.Posting) is holds next row =
    post_goes s o t is (rw (same_step x (step.Post 0) next) at row)
next_goes s x o t (Some slot.Resetting) is holds next row =
    reset_goes s o t is (rw (same_step x (step.Reset 0) next) at row)
next_goes s x o t (Some (slot.Holding span n)) is holds next row = absurd (cc)
next_goes s x o t None is holds next row = absurd (let no : None ≡ Some x = next in cc)
next_goes s x o t (Some slot.Idle) is holds next row = absurd (let no : None ≡ Some x = next in cc)
next_goes s x o t (Some (slot.Waiting r)) is holds next row = absurd (let no : None ≡ Some x = next in cc)
next_goes s x o t (Some (slot.Answered a)) is holds next row = absurd (let no : None ≡ Some x = next in cc)
