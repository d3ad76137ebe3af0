-- Each step of the batch queue keeps what holds of every batch queue.
use Rattle.std.proofs.Common.{◌≡◌, ◌≢◌, Result, None, inl, inr, ◌⊎◌, ◌∙◌, ap, sym, refl, ℕ, ◌+◌, ◌<◌, ◌≤◌, ◌^◌, Bool, true, false, List, [], ◌∷◌, ◌++◌, length, Option, Some, slice_get, slice_set, arith, sum_by}
use Rattle.std.proofs.Math.ListN.{length-set}
use Rattle.std.proofs.lemmas.Bool.Decides.{eqb_tells, leb_tells}
use Rattle.std.proofs.lemmas.Grind.{common_steps}
use Rattle.std.proofs.lemmas.Option.{slice_get_within}
use Rattle.std.proofs.lemmas.List.Sums.{sum_by_push}
use Rattle.circular_buffer.proofs.Places.{slice_get-set_same, slice_get-set_other}
use Rattle.otel_export.specs.declared.error.OTelSdkError.{OTelSdkError}
use Rattle.otel_batch.specs.declared.machine.state.Slot.{Slot}
use Rattle.otel_batch.specs.declared.machine.state.Slot.TheVariants.{Idle, Holding, Refused, Asking, Posting, Resetting, Waiting, Answered}
use Rattle.otel_batch.specs.declared.machine.state.Request.{Request}
use Rattle.otel_batch.specs.declared.machine.state.Message.{Message}
use Rattle.otel_batch.specs.declared.machine.state.Worker.{Worker}
use Rattle.otel_batch.specs.declared.machine.state.Worker.TheVariants as worker
use Rattle.otel_batch.specs.declared.machine.state.Why.{Why}
use Rattle.otel_batch.specs.Slots.{slot_counts, slot_asks, slot_waits}
use Rattle.otel_batch.specs.Workers.{worker_asks, is_gone, worker_names, why_names}
use Rattle.otel_batch.specs.Messages.{message_asks, message_names}
use Rattle.otel_batch.specs.MachineState.{Counts, batch_limit, limit_of}
use Rattle.otel_batch.specs.SoundMachine.{AccountsForSpans, HasOneWish, DrainsWithinLimits, LosesNoRequest, FitsItsPlaces, IsSound, wishes}
use Rattle.otel_batch.proofs.SlotSums.{counts_slot, asks_slot}

-- the counter after one slot changed, and perhaps the number that waits
pub counted_slot : (counter counter' waiting waiting' hand : ℕ) (w : Worker) (slots : List Slot) (p : ℕ)
    (old new : Slot) → slice_get slots p ≡ Some old →
    counter' + waiting + slot_counts old ≡ counter + waiting' + slot_counts new →
    AccountsForSpans counter waiting hand w slots →
    AccountsForSpans counter' waiting' hand w (slice_set slots p new)
counted_slot counter counter' waiting waiting' hand w slots p old new at e h =
    record { total = omega (arith, counts_slot slots p old new at, h.total, e) }

-- the wishes to export after a slot and the messages changed, that are as many as before
pub asked_slot : (closed flag : Bool) (ms ms' : List Message) (w : Worker) (slots : List Slot) (p : ℕ)
    (old new : Slot) → slice_get slots p ≡ Some old →
    sum_by message_asks ms' + slot_asks new ≡ sum_by message_asks ms + slot_asks old →
    HasOneWish closed flag ms w slots →
    HasOneWish closed flag ms' w (slice_set slots p new)
asked_slot closed flag ms ms' w slots p old new at e h =
    let same : wishes ms' w (slice_set slots p new) ≡ wishes ms w slots = omega (arith, asks_slot slots p old new at, e) in
    record { clear = λ f. same ∙ h.clear f; set = λ o f. same ∙ h.set o f; most = omega (arith, same, h.most) }

-- a drain does not look into the slots
pub drain_slot : (queue batch target done hand : ℕ) (w : Worker) (slots : List Slot) (p : ℕ) (new : Slot) →
    DrainsWithinLimits queue batch (length slots) target done hand w →
    DrainsWithinLimits queue batch (length (slice_set slots p new)) target done hand w
drain_slot queue batch target done hand w slots p new h = rw (length-set slots p new) h

pub fits_slot : (queue batch waiting waiting' m m' dropped dropped' : ℕ) (slots : List Slot) (p : ℕ) (new : Slot) →
    waiting' ≤ queue → m' ≤ 64 → dropped' < 2 ^ 64 →
    FitsItsPlaces queue batch waiting (length slots) m dropped →
    FitsItsPlaces queue batch waiting' (length (slice_set slots p new)) m' dropped'
fits_slot queue batch waiting waiting' m m' dropped dropped' slots p new le le' lt h =
    rw (length-set slots p new) (record {
      queue_fits = h.queue_fits;
      batch_fits = h.batch_fits;
      waiting_fits = le;
      producers_fit = h.producers_fit;
      messages_fit = le';
      dropped_fits = lt;
    })

-- the producers that wait, after a slot changed that waited no more than it does now
pub awaited_slot : (closed : Bool) (ms ms' : List Message) (y : Why) (w : Worker) (slots : List Slot) (p : ℕ)
    (old new : Slot) → slice_get slots p ≡ Some old →
    ((q : ℕ) → q ≢ p → sum_by (message_names q) ms' ≡ sum_by (message_names q) ms) →
    sum_by (message_names p) ms' + slot_waits (Some old) ≡ sum_by (message_names p) ms + slot_waits (Some new) →
    (closed ≡ true → ms' ≡ []) →
    LosesNoRequest closed ms y w slots →
    LosesNoRequest closed ms' y w (slice_set slots p new)
awaited_slot closed ms ms' y w slots p old new at others own empty h = record {
  each = λ q. elim (eqb_tells q p) [
    | inl same0 ↦
        let same : q ≡ p = same0.1 in
        let lt : p < length slots = slice_get_within slots p old at in
        let now : slice_get (slice_set slots p new) q ≡ Some new = rw same (slice_get-set_same slots p new lt) in
        let before : slot_waits (slice_get slots q) ≡ slot_waits (Some old) =
        ap slot_waits (ap (λ k. slice_get slots k) same ∙ at) in
        let own' : sum_by (message_names q) ms' + slot_waits (Some old)
        ≡ sum_by (message_names q) ms + slot_waits (Some new) = rw same own in
        rw now (omega (arith, h.each q, before, own'))
    | inr other ↦
        rw (slice_get-set_other slots p q new other.1) (omega (arith, others q other.1, h.each q))
  ];
  gone = h.gone;
  empty = empty;
}

-- after one slot changed, and nothing of the control queue
module _ (s : Counts) (p : ℕ) (old new : Slot) (at : slice_get s.control.slots p ≡ Some old) (h : IsSound s) where
  slot_drain : DrainsWithinLimits s.control.queue_size s.control.batch_size (length (slice_set s.control.slots p new))
      s.control.target s.control.done s.hand s.control.worker
  slot_drain = drain_slot s.control.queue_size s.control.batch_size s.control.target s.control.done s.hand
      s.control.worker s.control.slots p new h.drain

  slot_fits : (waiting' m' dropped' : ℕ) → waiting' ≤ s.control.queue_size → m' ≤ 64 → dropped' < 2 ^ 64 →
      FitsItsPlaces s.control.queue_size s.control.batch_size waiting' (length (slice_set s.control.slots p new)) m' dropped'
  slot_fits waiting' m' dropped' le le' lt = fits_slot s.control.queue_size s.control.batch_size s.waiting waiting'
      (length s.control.messages) m' s.control.dropped dropped' s.control.slots p new le le' lt h.fits

  slot_awaited : slot_waits (Some old) ≡ slot_waits (Some new) →
      LosesNoRequest s.control.closed s.control.messages s.control.why s.control.worker (slice_set s.control.slots p new)
  slot_awaited wait = awaited_slot s.control.closed s.control.messages s.control.messages s.control.why
      s.control.worker s.control.slots p old new at (λ q _. refl) (omega (arith, wait)) h.awaited.empty h.awaited

  slot_counted : (counter' waiting' : ℕ) →
      counter' + s.waiting + slot_counts old ≡ s.control.counter + waiting' + slot_counts new →
      AccountsForSpans counter' waiting' s.hand s.control.worker (slice_set s.control.slots p new)
  slot_counted counter' waiting' count = counted_slot s.control.counter counter' s.waiting waiting' s.hand
      s.control.worker s.control.slots p old new at count h.counted

  pub sound_slot : (counter' waiting' dropped' : ℕ) →
      counter' + s.waiting + slot_counts old ≡ s.control.counter + waiting' + slot_counts new →
      slot_asks new ≡ slot_asks old →
      slot_waits (Some old) ≡ slot_waits (Some new) →
      waiting' ≤ s.control.queue_size →
      dropped' < 2 ^ 64 →
      IsSound (record s {
        waiting = waiting';
        control = record s.control {
          counter = counter';
          dropped = dropped';
          slots = slice_set s.control.slots p new;
        };
      })
  sound_slot counter' waiting' dropped' count ask wait fit lt = record {
    counted = slot_counted counter' waiting' count;
    asked = asked_slot s.control.closed s.control.flag s.control.messages s.control.messages s.control.worker
        s.control.slots p old new at (omega (arith, ask)) h.asked;
    drain = slot_drain;
    awaited = slot_awaited wait;
    fits = slot_fits waiting' (length s.control.messages) dropped' fit h.fits.messages_fit lt;
  }

  -- after a producer posted a message
  pub sound_posted : (m : Message) → s.control.closed ≡ false → length s.control.messages < 64 →
      slot_counts old ≡ slot_counts new →
      message_asks m + slot_asks new ≡ slot_asks old →
      ((q : ℕ) → q ≢ p → message_names q m ≡ 0) →
      message_names p m + slot_waits (Some old) ≡ slot_waits (Some new) →
      IsSound (record s {
        control = record s.control {
          messages = s.control.messages ++ m ∷ [];
          slots = slice_set s.control.slots p new;
        };
      })
  sound_posted m is_open room count ask others own =
      let asks = sum_by_push message_asks s.control.messages m in
      record {
        counted = slot_counted s.control.counter s.waiting (omega (arith, count));
        asked = asked_slot s.control.closed s.control.flag s.control.messages (s.control.messages ++ m ∷ [])
            s.control.worker s.control.slots p old new at (omega (arith, asks, ask)) h.asked;
        drain = slot_drain;
        awaited = awaited_slot s.control.closed s.control.messages (s.control.messages ++ m ∷ []) s.control.why
            s.control.worker s.control.slots p old new at
            (λ q n. omega (arith, sum_by_push (message_names q) s.control.messages m, others q n))
            (omega (arith, sum_by_push (message_names p) s.control.messages m, own))
            (λ c. absurd (cc)) h.awaited;
        fits = slot_fits s.waiting (length (s.control.messages ++ m ∷ [])) s.control.dropped
            h.fits.waiting_fits (grind (arith, common_steps, room)) h.fits.dropped_fits;
      }

-- a producer may post its wish
pub sound_may_post : (s : Counts) (p : ℕ) → slice_get s.control.slots p ≡ Some Asking → s.control.flag ≡ false →
    IsSound s →
    IsSound (record s { control = record s.control { flag = true; slots = slice_set s.control.slots p Posting } })
sound_may_post s p at clear h =
    let more = asks_slot s.control.slots p Asking Posting at in
    let none = h.asked.clear clear in
    record {
      counted = slot_counted s p Asking Posting at h s.control.counter s.waiting (omega arith);
      asked = record { clear = λ f. cc; set = λ o f. omega (arith, more, none); most = omega (arith, more, none) };
      drain = slot_drain s p Asking Posting at h;
      awaited = slot_awaited s p Asking Posting at h (omega arith);
      fits = slot_fits s p Asking Posting at h s.waiting (length s.control.messages) s.control.dropped
          h.fits.waiting_fits h.fits.messages_fit h.fits.dropped_fits;
    }

-- a producer took its wish back
pub sound_reset : (s : Counts) (p : ℕ) → slice_get s.control.slots p ≡ Some Resetting → IsSound s →
    IsSound (record s { control = record s.control { flag = false; slots = slice_set s.control.slots p Idle } })
sound_reset s p at h =
    let less = asks_slot s.control.slots p Resetting Idle at in
    record {
      counted = slot_counted s p Resetting Idle at h s.control.counter s.waiting (omega arith);
      asked = record {
        clear = λ f. omega (arith, less, h.asked.most);
        set = λ o f. cc;
        most = omega (arith, less, h.asked.most);
      };
      drain = slot_drain s p Resetting Idle at h;
      awaited = slot_awaited s p Resetting Idle at h (omega arith);
      fits = slot_fits s p Resetting Idle at h s.waiting (length s.control.messages) s.control.dropped
          h.fits.waiting_fits h.fits.messages_fit h.fits.dropped_fits;
    }

-- the worker matters only by what it accounts for
pub asked_worker : (closed flag : Bool) (ms : List Message) (w w' : Worker) (slots : List Slot) →
    worker_asks w' ≡ worker_asks w → HasOneWish closed flag ms w slots → HasOneWish closed flag ms w' slots
asked_worker closed flag ms w w' slots same h =
    let e : wishes ms w' slots ≡ wishes ms w slots = omega (arith, same) in
    record { clear = λ f. e ∙ h.clear f; set = λ o f. e ∙ h.set o f; most = omega (arith, e, h.most) }

pub awaited_worker : (closed : Bool) (ms : List Message) (y y' : Why) (w w' : Worker) (slots : List Slot) →
    ((p : ℕ) → worker_names p y' w' ≡ worker_names p y w) → is_gone w' ≡ is_gone w →
    LosesNoRequest closed ms y w slots → LosesNoRequest closed ms y' w' slots
awaited_worker closed ms y y' w w' slots same gone h = record {
  each = λ p. omega (arith, same p, h.each p);
  gone = h.gone ∙ sym gone;
  empty = h.empty;
}

-- while a drain goes on and spans wait, a batch may have a span
pub limit_positive : (queue batch target done waiting : ℕ) → waiting ≤ queue → 0 < waiting → done < target →
    0 < batch_limit queue batch target done
limit_positive queue batch target done waiting fits some on = elim (eqb_tells batch 0) [
  | inl zero ↦ rw zero.0 (omega arith)
  | inr more ↦ rw more.0 (omega (arith, more.1))
]

-- a span was pulled
pub sound_pulled : (s : Counts) (w : Worker) (waiting' : ℕ) → s.control.worker ≡ worker.Pulling →
    s.waiting ≡ waiting' + 1 →
    (w ≡ worker.Pulling) × (s.hand + 1 < limit_of s.control)
    ⊎ (w ≡ worker.Handing) × (limit_of s.control ≤ s.hand + 1) →
    IsSound s →
    IsSound (record { hand = s.hand + 1; waiting = waiting'; control = record s.control { worker = w } })
sound_pulled s w waiting' pulling one cases h =
    let on : s.control.done < s.control.target = h.drain.on (rw pulling refl) in
    let limit : 0 < limit_of s.control = limit_positive s.control.queue_size s.control.batch_size s.control.target
    s.control.done s.waiting h.fits.waiting_fits (omega (arith, one)) on in
    let below : 0 < s.hand → s.hand < limit_of s.control = h.drain.pulling (rw pulling refl) in
    let most : s.hand + 1 ≤ limit_of s.control = elim (leb_tells 1 s.hand) [
      | inl some ↦ omega (arith, below some.1)
      | inr none ↦ omega (arith, limit, none.1)
    ] in
    let fits' : FitsItsPlaces s.control.queue_size s.control.batch_size waiting' (length s.control.slots)
    (length s.control.messages) s.control.dropped = record {
      queue_fits = h.fits.queue_fits;
      batch_fits = h.fits.batch_fits;
      waiting_fits = omega (arith, one, h.fits.waiting_fits);
      producers_fit = h.fits.producers_fit;
      messages_fit = h.fits.messages_fit;
      dropped_fits = h.fits.dropped_fits;
    } in
    let total : s.control.counter ≡ waiting' + (s.hand + 1) + 0 + sum_by slot_counts s.control.slots =
    omega (arith, rw pulling at h.counted.total, one) in
    elim cases [
      | inl stays ↦ rw stays.0 (record {
        counted = record { total = total };
        asked = asked_worker _ _ _ _ _ _ (rw pulling refl) h.asked;
        drain = record {
          target_fits = h.drain.target_fits;
          done_fits = h.drain.done_fits;
          on = λ _. on;
          hand_empty = λ f. cc;
          hand_fits = most;
          pulling = λ _ _. stays.1;
          handing = λ f. cc;
          subtracting_fits = omega arith;
        };
        awaited = awaited_worker _ _ _ _ _ _ _ (λ p. rw pulling refl) (rw pulling refl) h.awaited;
        fits = fits';
      })
      | inr full ↦ rw full.0 (record {
        counted = record { total = total };
        asked = asked_worker _ _ _ _ _ _ (rw pulling refl) h.asked;
        drain = record {
          target_fits = h.drain.target_fits;
          done_fits = h.drain.done_fits;
          on = λ _. on;
          hand_empty = λ f. cc;
          hand_fits = most;
          pulling = λ f. cc;
          handing = λ _. omega arith;
          subtracting_fits = omega arith;
        };
        awaited = awaited_worker _ _ _ _ _ _ _ (λ p. rw pulling refl) (rw pulling refl) h.awaited;
        fits = fits';
      })
    ]

-- a slot that something waits for
pub slot_waits-one : (o : Option Slot) → 0 < slot_waits o →
    (r : Request) × (o ≡ Some (Waiting r)) × (slot_waits o ≡ 1)
slot_waits-one None h = absurd (omega arith)
slot_waits-one (Some (Waiting r)) h = (r, refl, refl)
slot_waits-one (Some Idle) h = absurd (omega arith)
slot_waits-one (Some Refused) h = absurd (omega arith)
slot_waits-one (Some Asking) h = absurd (omega arith)
slot_waits-one (Some Posting) h = absurd (omega arith)
slot_waits-one (Some Resetting) h = absurd (omega arith)
slot_waits-one (Some (Holding span n)) h = absurd (omega arith)
slot_waits-one (Some (Answered r)) h = absurd (omega arith)

-- the one for whom the worker drains waits
pub awaits : (closed : Bool) (ms : List Message) (y : Why) (w : Worker) (slots : List Slot) (p : ℕ) →
    worker_names p y w ≡ 1 → LosesNoRequest closed ms y w slots →
    (r : Request) × (slice_get slots p ≡ Some (Waiting r)) × (slot_waits (slice_get slots p) ≡ 1)
awaits closed ms y w slots p own h = slot_waits-one (slice_get slots p) (omega (arith, own, h.each p))

-- the worker answered the one for whom it drained
pub sound_answered : (s : Counts) (p : ℕ) (r result' : Result (Unit {0}) OTelSdkError) →
    s.control.worker ≡ worker.Finishing → why_names p s.control.why ≡ 1 →
    ((q : ℕ) → q ≢ p → why_names q s.control.why ≡ 0) →
    IsSound s →
    IsSound (record s {
      control = record s.control {
        result = result';
        worker = worker.Ready;
        slots = slice_set s.control.slots p (Answered r);
      };
    })
sound_answered s p r result' finishing own others h =
    let own' : worker_names p s.control.why s.control.worker ≡ 1 = rw finishing own in
    let waits = awaits s.control.closed s.control.messages s.control.why s.control.worker s.control.slots p own'
    h.awaited in
    let lt : p < length s.control.slots = slice_get_within s.control.slots p (Waiting waits.0) waits.1 in
    let empty : s.hand ≡ 0 = h.drain.hand_empty (rw finishing refl) in
    let drained = slot_drain s p (Waiting waits.0) (Answered r) waits.1 h in
    let is_open : s.control.closed ≡ false = rw finishing at h.awaited.gone in
    record {
      counted = record {
        total = omega (
          arith,
          counts_slot s.control.slots p (Waiting waits.0) (Answered r) waits.1,
          rw finishing at h.counted.total,
        );
      };
      asked = asked_worker _ _ _ _ _ _ (rw finishing refl)
          (asked_slot s.control.closed s.control.flag s.control.messages s.control.messages s.control.worker
          s.control.slots p (Waiting waits.0) (Answered r) waits.1 (omega arith) h.asked);
      drain = record {
        target_fits = drained.target_fits;
        done_fits = h.drain.done_fits;
        on = λ f. cc;
        hand_empty = λ f. empty;
        hand_fits = h.drain.hand_fits;
        pulling = λ f. cc;
        handing = λ f. cc;
        subtracting_fits = omega arith;
      };
      awaited = record {
        each = λ q. elim (eqb_tells q p) [
          | inl same ↦
              let now : slice_get (slice_set s.control.slots p (Answered r)) q ≡ Some (Answered r) =
              rw same.1 (slice_get-set_same s.control.slots p (Answered r) lt) in
              let none : sum_by (message_names q) s.control.messages ≡ 0 =
              rw same.1 (omega (arith, own', waits.2, h.awaited.each p)) in
              rw now (omega (arith, none))
          | inr other ↦
              let no : worker_names q s.control.why s.control.worker ≡ 0 = rw finishing (others q other.1) in
              rw (slice_get-set_other s.control.slots p q (Answered r) other.1)
              (omega (arith, no, h.awaited.each q))
        ];
        gone = is_open;
        empty = h.awaited.empty;
      };
      fits = slot_fits s p (Waiting waits.0) (Answered r) waits.1 h s.waiting (length s.control.messages)
          s.control.dropped h.fits.waiting_fits h.fits.messages_fit h.fits.dropped_fits;
    }
