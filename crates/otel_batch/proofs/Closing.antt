use Rattle.std.proofs.Common.{Bool, ◌≡◌, ◌∙◌, ap, sym, refl, inl, inr, zero, suc, ℕ, ◌<◌, true, List, [], length, Option, Some, None, Ok, Result, sum_by, slice_get, slice_set, arith}
use Rattle.std.proofs.Math.ListN.{length-set}
use Rattle.std.proofs.lemmas.Bool.Decides.{eqb_tells}
use Rattle.std.proofs.lemmas.Option.{slice_get_within}
use Rattle.circular_buffer.proofs.Places.{slice_get-set_same, slice_get-set_other}
use Rattle.otel_batch.specs.declared.machine.state.Slot.{Slot}
use Rattle.otel_batch.specs.declared.machine.state.Slot.TheVariants.{Idle, Holding, Refused, Asking, Posting, Resetting, Waiting, Answered}
use Rattle.otel_batch.specs.declared.machine.state.Message.{Message}
use Rattle.otel_batch.specs.declared.machine.state.Request.{Request}
use Rattle.otel_batch.specs.declared.machine.state.Why.{Why}
use Rattle.otel_batch.specs.declared.machine.state.Worker.{Worker}
use Rattle.otel_batch.specs.declared.machine.state.Worker.TheVariants as worker
use Rattle.otel_batch.specs.Slots.{slot_counts, slot_asks, slot_waits}
use Rattle.otel_batch.specs.Workers.{worker_names}
use Rattle.otel_batch.specs.Messages.{message_names}
use Rattle.otel_batch.specs.MachineState.{Counts}
use Rattle.otel_batch.specs.SoundMachine.{LosesNoRequest, IsSound}
use Rattle.otel_batch.specs.DrainEnds.{IsDropped, SaysDropped}
use Rattle.otel_batch.proofs.SlotSums.{counts_slot, asks_slot}
use Rattle.otel_batch.proofs.Soundness.{awaits}

-- while the worker closes for p, p waits
pub closing_awaits : (closed : Bool) (ms : List Message) (y : Why) (w : Worker) (slots : List Slot) (p : ℕ) → w ≡ worker.Closing p → LosesNoRequest closed ms y w slots →
    (r : Request) × (slice_get slots p ≡ Some (Waiting r)) × (slot_waits (slice_get slots p) ≡ 1)
closing_awaits closed ms y w slots p is h =
    awaits closed ms y w slots p (rw is (elim (eqb_tells p p) [ inl same ↦ rw same.0 | inr other ↦ absurd (other.1 refl) ])) h

-- and each other one that waits has its request in the control queue
pub closing_others : (closed : Bool) (ms : List Message) (y : Why) (w : Worker) (slots : List Slot) (p : ℕ) (r : Result (Unit {0}) _) → w ≡ worker.Closing p → LosesNoRequest closed ms y w slots →
    (q : ℕ) → sum_by (message_names q) ms ≡ slot_waits (slice_get (slice_set slots p (Answered r)) q)
closing_others closed ms y w slots p r is h q =
    let waits = closing_awaits closed ms y w slots p is h in
    let lt : p < length slots = slice_get_within slots p (Waiting waits.0) waits.1 in
    let here : worker_names p y w ≡ 1 = rw is (elim (eqb_tells p p) [ inl same ↦ rw same.0 | inr other ↦ absurd (other.1 refl) ]) in
    elim (eqb_tells q p) [
      | inl same ↦
          let now : slice_get (slice_set slots p (Answered r)) q ≡ Some (Answered r) = rw same.1 (slice_get-set_same slots p (Answered r) lt) in
          let gone : sum_by (message_names q) ms ≡ 0 = rw same.1 (omega (arith, here, waits.2, h.each p)) in
          rw now gone
      | inr other ↦
          let away : worker_names q y w ≡ 0 = rw is (elim (eqb_tells p q) [ inl same ↦ absurd (other.1 (sym same.1)) | inr differ ↦ rw differ.0 ]) in
          rw (slice_get-set_other slots p q (Answered r) other.1) (omega (arith, away, h.each q))
    ]

-- no one waits whose requests were dropped
says_dropped-waits : (o : Option Slot) → SaysDropped o → slot_waits o ≡ 0
says_dropped-waits None h = refl
says_dropped-waits (Some Idle) h = refl
says_dropped-waits (Some (Holding span n)) h = refl
says_dropped-waits (Some Refused) h = refl
says_dropped-waits (Some Asking) h = refl
says_dropped-waits (Some Posting) h = refl
says_dropped-waits (Some Resetting) h = refl
says_dropped-waits (Some (Waiting r)) h = absurd h
says_dropped-waits (Some (Answered r)) h = refl

dropped_waits : (n : ℕ) (old new : Option Slot) → IsDropped n old new → n ≡ slot_waits old → slot_waits new ≡ 0
dropped_waits zero old new d e = ap slot_waits d ∙ sym e
dropped_waits (suc n) old new d e = says_dropped-waits new d

pub sound_closed : (s : Counts) (p : ℕ) (slots' : List Slot) → s.control.worker ≡ worker.Closing p →
    ((q : ℕ) → IsDropped (sum_by (message_names q) s.control.messages) (slice_get (slice_set s.control.slots p (Answered (Ok tt))) q) (slice_get slots' q)) →
    length slots' ≡ length (slice_set s.control.slots p (Answered (Ok tt))) →
    sum_by slot_counts slots' ≡ sum_by slot_counts (slice_set s.control.slots p (Answered (Ok tt))) →
    sum_by slot_asks slots' ≡ sum_by slot_asks (slice_set s.control.slots p (Answered (Ok tt))) →
    IsSound s →
    IsSound (record s { control = record s.control { messages = []; slots = slots'; closed = true; worker = worker.Gone } })
sound_closed s p slots' is drops len counts asks h =
    let waits = closing_awaits s.control.closed s.control.messages s.control.why s.control.worker s.control.slots p is h.awaited in
    let counts' = counts_slot s.control.slots p (Waiting waits.0) (Answered (Ok tt)) waits.1 in
    let asks' = asks_slot s.control.slots p (Waiting waits.0) (Answered (Ok tt)) waits.1 in
    let len' : length slots' ≡ length s.control.slots = len ∙ length-set s.control.slots p (Answered (Ok tt)) in
    let empty : s.hand ≡ 0 = h.drain.hand_empty (rw is refl) in
    record {
      counted = record { total = omega (arith, counts, counts', rw is at h.counted.total) };
      asked = record { clear = λ f. omega (arith, asks, asks', h.asked.clear f); set = λ o f. cc; most = omega (arith, asks, asks', h.asked.most) };
      drain = record {
        target_fits = omega (arith, len', h.drain.target_fits);
        done_fits = h.drain.done_fits;
        on = λ f. cc;
        hand_empty = λ f. empty;
        hand_fits = h.drain.hand_fits;
        pulling = λ f. cc;
        handing = λ f. cc;
        subtracting_fits = omega arith;
      };
      fits = record { queue_fits = h.fits.queue_fits; batch_fits = h.fits.batch_fits; waiting_fits = h.fits.waiting_fits; producers_fit = omega (arith, len', h.fits.producers_fit); messages_fit = omega arith; dropped_fits = h.fits.dropped_fits };
      awaited = record {
        each = λ q. sym (dropped_waits (sum_by (message_names q) s.control.messages) _ (slice_get slots' q) (drops q)
            (closing_others s.control.closed s.control.messages s.control.why s.control.worker s.control.slots p (Ok tt) is h.awaited q));
        gone = refl;
        empty = λ _. refl;
      };
    }
