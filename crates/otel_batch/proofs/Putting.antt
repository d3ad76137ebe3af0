-- What a put of the first producer does, as the steps of the table that it stands for.
use Rattle.std.proofs.Common.{◌≡◌, refl, sym, ap, ℕ, ◌+◌, ◌-◌, ◌<◌, ◌^◌, Bool, true, false, List, [], ◌∷◌, ◌++◌, length, Some, slice_get, slice_set, nat_le, ◌==◌, if◌then◌else◌, arith}
use Rattle.std.proofs.lemmas.Grind.{common_steps}
use Rattle.otel_export.specs.PlainSpanData.{PlainSpanData, is_sampled}
use Rattle.otel_export.specs.StoredBatches.{one_more}
use Rattle.otel_export.specs.declared.trace.export.SpanExporter.{Ghosts}
use Rattle.otel_batch.specs.Slots.{span_held, is_holding, number_held, slot_counts, slot_asks, slot_waits}
use Rattle.otel_batch.specs.MachineState.{Machine, counts}
use Rattle.otel_batch.specs.SoundMachine.{IsSound}
use Rattle.otel_batch.specs.ProducerSteps.{after_send}
use Rattle.otel_batch.specs.MachineRun.{IsStep}
use Rattle.otel_batch.specs.WorkedOff.{GoesBy, OffersSpan, next_of_producer, producers_next}
use Rattle.otel_batch.specs.declared.machine.state.Slot.{Slot}
use Rattle.otel_batch.specs.declared.machine.state.Slot.TheVariants as slot
use Rattle.otel_batch.specs.declared.machine.state.Message.{Message}
use Rattle.otel_batch.specs.declared.machine.state.Message.TheVariants as message
use Rattle.otel_batch.specs.declared.machine.step.Outcome.{Outcome}
use Rattle.otel_batch.specs.declared.machine.step.Outcome.TheVariants as outcome
use Rattle.otel_batch.specs.declared.machine.step.Step.{Step}
use Rattle.otel_batch.specs.declared.machine.step.Step.TheVariants as step
use Rattle.otel_batch.proofs.Soundness.{sound_slot, sound_may_post, sound_posted, sound_reset}
use Rattle.otel_batch.proofs.SlotWriteLemmas.{put_get, put_twice, put_thrice, put_four, put_five}
use Rattle.otel_batch.proofs.StepLemmas.{stepped}

-- the slot after a send that was accepted accounts for nothing, whether the producer wants an export or not
open_slot : (b : Bool) → (slot_counts (if b then slot.Asking else slot.Idle) ≡ 0)
    × (slot_asks (if b then slot.Asking else slot.Idle) ≡ 0)
    × (slot_waits (Some (if b then slot.Asking else slot.Idle)) ≡ 0)
open_slot true = (refl, refl, refl)
open_slot false = (refl, refl, refl)

-- the machine after a put that was accepted, with this flag and these messages
abbrev pub taken : {E : Type 0} → PlainSpanData → Bool → List Message → Machine E → Machine E
taken span flag messages m = record m {
  waiting = m.waiting ++ span ∷ [];
  control = record m.control { counter = m.control.counter + 1; flag = flag; messages = messages };
}

-- a span that the first producer, which is idle, puts into a queue
module _ {E : Type 0} (calls : Ghosts E) (s : Machine E) (span : PlainSpanData)
    (at : slice_get s.control.slots 0 ≡ Some slot.Idle) (sound : IsSound (counts s)) where
  abbrev number : ℕ
  number = s.control.counter + 1

  abbrev holding : Slot
  holding = slot.Holding span number

  -- it is counted, and the producer holds it
  abbrev held : Machine E
  held = record s { control = record s.control { counter = number; slots = slice_set s.control.slots 0 holding } }

  held_at : slice_get held.control.slots 0 ≡ Some holding
  held_at = put_get s.control.slots slot.Idle holding at

  held_sound : IsSound (counts held)
  held_sound = sound_slot (counts s) 0 slot.Idle holding at sound number (length s.waiting) s.control.dropped
      (omega arith) (omega arith) (omega arith) sound.fits.waiting_fits sound.fits.dropped_fits

  offers : is_sampled span ≡ true → IsStep calls s (step.Offer 0 span) (outcome.Counted number) held
  offers sampled = stepped calls s (step.Offer 0 span) (outcome.Counted number) held sound (at, sampled, refl, refl)
      (record { exporter = refl; hand = refl; waiting = refl }) held_sound

  -- it is refused, where so many are counted as dropped from then on
  abbrev refused : ℕ → Machine E
  refused dropped = record held {
    control = record held.control { dropped = dropped; slots = slice_set held.control.slots 0 slot.Refused };
  }

  refused_at : (dropped : ℕ) → slice_get (refused dropped).control.slots 0 ≡ Some slot.Refused
  refused_at dropped = put_get held.control.slots holding slot.Refused held_at

  refused_sound : (dropped : ℕ) → dropped < 2 ^ 64 → IsSound (counts (refused dropped))
  refused_sound dropped lt = sound_slot (counts held) 0 holding slot.Refused held_at held_sound number
      (length s.waiting) dropped (omega arith) (omega arith) (omega arith) sound.fits.waiting_fits lt

  -- and is no longer counted
  abbrev undone : ℕ → Machine E
  undone dropped = record s {
    control = record s.control {
      counter = number - 1;
      dropped = dropped;
      slots = slice_set (refused dropped).control.slots 0 slot.Idle;
    };
  }

  undone_sound : (dropped : ℕ) → dropped < 2 ^ 64 → IsSound (counts (undone dropped))
  undone_sound dropped lt = sound_slot (counts (refused dropped)) 0 slot.Refused slot.Idle (refused_at dropped)
      (refused_sound dropped lt) (number - 1) (length s.waiting) dropped (omega arith) (omega arith) (omega arith)
      sound.fits.waiting_fits lt

  undoes : (dropped : ℕ) → dropped < 2 ^ 64 →
      IsStep calls (refused dropped) (step.Undo 0) outcome.Undone (undone dropped)
  undoes dropped lt = stepped calls (refused dropped) (step.Undo 0) outcome.Undone (undone dropped)
      (refused_sound dropped lt) (refused_at dropped, refl) (record { exporter = refl; hand = refl; waiting = refl })
      (undone_sound dropped lt)

  undone_is : (dropped : ℕ) → record s { control = record s.control { dropped = dropped } } ≡ undone dropped
  undone_is dropped =
      let same : s.control.counter ≡ number - 1 = omega arith in
      let slots : s.control.slots ≡ slice_set (refused dropped).control.slots 0 slot.Idle =
      sym (put_thrice s.control.slots slot.Idle holding slot.Refused at) in
      ap (λ (c : ℕ × List Slot). record s {
        control = record s.control { counter = c.0; dropped = dropped; slots = c.1 };
      }) (let both : (s.control.counter, s.control.slots) ≡ (number - 1, slice_set (refused dropped).control.slots 0 slot.Idle) = cc in both)

  -- a send that refuses it leaves all but that count
  refuses : (o : Outcome) (dropped : ℕ) → is_sampled span ≡ true → dropped < 2 ^ 64 →
      IsStep calls held (step.Send 0) o (refused dropped) →
      OffersSpan calls s span (record s { control = record s.control { dropped = dropped } })
  refuses o dropped sampled lt sends = record {
    offered = outcome.Counted number;
    holding = held;
    outcomes = o ∷ outcome.Undone ∷ [];
    offers = (held, offers sampled, refl);
    works = record {
      steps = step.Send 0 ∷ step.Undo 0 ∷ [];
      goes = (
        ap producers_next held_at,
        refused dropped,
        sends,
        (ap producers_next (refused_at dropped), undone dropped, undoes dropped lt, undone_is dropped),
      );
      over = ap producers_next at;
    };
    exporter = refl;
  }

  -- one that is not sampled is skipped
  pub puts_unsampled : is_sampled span ≡ false → OffersSpan calls s span s
  puts_unsampled not = record {
    offered = outcome.Skipped;
    holding = s;
    outcomes = [];
    offers = (
      s,
      stepped calls s (step.Offer 0 span) outcome.Skipped s sound (at, not, refl)
          (record { exporter = refl; hand = refl; waiting = refl }) sound,
      refl,
    );
    works = record { steps = []; goes = refl; over = ap producers_next at };
    exporter = refl;
  }

  -- a closed queue refuses it
  pub puts_closed : is_sampled span ≡ true → s.control.closed ≡ true → OffersSpan calls s span s
  puts_closed sampled closed = refuses outcome.Closed s.control.dropped sampled sound.fits.dropped_fits
      (stepped calls held (step.Send 0) outcome.Closed (refused s.control.dropped) held_sound
      (ap is_holding held_at, closed, refl) (record { exporter = refl; hand = refl; waiting = refl })
      (refused_sound s.control.dropped sound.fits.dropped_fits))

  -- a full one counts it as dropped
  pub puts_full : is_sampled span ≡ true → s.control.closed ≡ false → length s.waiting ≡ s.control.queue_size →
      OffersSpan calls s span (record s { control = record s.control { dropped = one_more s.control.dropped } })
  puts_full sampled opens full =
      let lt : one_more s.control.dropped < 2 ^ 64 = grind (arith, common_steps) in
      refuses outcome.Full (one_more s.control.dropped) sampled lt
      (stepped calls held (step.Send 0) outcome.Full (refused (one_more s.control.dropped)) held_sound
      (ap is_holding held_at, opens, full, refl) (record { exporter = refl; hand = refl; waiting = refl })
      (refused_sound (one_more s.control.dropped) lt))

  -- an open one with room takes it, and its producer has this slot then
  abbrev queued : Slot → Machine E
  queued next = record held {
    waiting = s.waiting ++ span ∷ [];
    control = record held.control { slots = slice_set held.control.slots 0 next };
  }

  queued_at : (next : Slot) → slice_get (queued next).control.slots 0 ≡ Some next
  queued_at next = put_get held.control.slots holding next held_at

  one_longer : length (s.waiting ++ span ∷ []) ≡ length s.waiting + 1
  one_longer = grind (arith, common_steps)

  queued_sound : (b : Bool) → length s.waiting < s.control.queue_size →
      IsSound (counts (queued (if b then slot.Asking else slot.Idle)))
  queued_sound b room =
      let none = open_slot b in
      sound_slot (counts held) 0 holding (if b then slot.Asking else slot.Idle) held_at held_sound number
      (length (s.waiting ++ span ∷ [])) s.control.dropped (omega (arith, none.0, one_longer)) (omega (arith, none.1))
      (omega (arith, none.2)) (omega (arith, one_longer, room)) sound.fits.dropped_fits

  queues : (b : Bool) → nat_le s.control.batch_size number ≡ b → s.control.closed ≡ false →
      length s.waiting < s.control.queue_size →
      IsStep calls held (step.Send 0) outcome.Accepted (queued (if b then slot.Asking else slot.Idle))
  queues b is opens room =
      let next : (if b then slot.Asking else slot.Idle)
      ≡ after_send s.control.batch_size (number_held (slice_get held.control.slots 0)) =
      rw held_at (ap (λ c. if c then slot.Asking else slot.Idle) (sym is)) in
      stepped calls held (step.Send 0) outcome.Accepted (queued (if b then slot.Asking else slot.Idle)) held_sound (
        ap is_holding held_at,
        opens,
        room,
        ap (λ (c : ℕ × Slot). record (counts held) {
          waiting = c.0;
          control = record held.control { slots = slice_set held.control.slots 0 c.1 };
        }) (let both : (length (s.waiting ++ span ∷ []), (if b then slot.Asking else slot.Idle))
            ≡ (length s.waiting + 1, after_send s.control.batch_size (number_held (slice_get held.control.slots 0))) =
            (let more = one_longer in cc) in both),
      )
      (record { exporter = refl; hand = refl; waiting = ap (λ o. s.waiting ++ span_held o) (sym held_at) })
      (queued_sound b room)

  -- what is left of a put after the send
  accepts : (b : Bool) → is_sampled span ≡ true → nat_le s.control.batch_size number ≡ b → s.control.closed ≡ false →
      length s.waiting < s.control.queue_size → (xs : List Step) (os : List Outcome) (t : Machine E) →
      GoesBy calls next_of_producer (queued (if b then slot.Asking else slot.Idle)) xs os t →
      slice_get t.control.slots 0 ≡ Some slot.Idle → t.exporter ≡ s.exporter → OffersSpan calls s span t
  accepts b sampled is opens room xs os t goes idle same = record {
    offered = outcome.Counted number;
    holding = held;
    outcomes = outcome.Accepted ∷ os;
    offers = (held, offers sampled, refl);
    works = record {
      steps = step.Send 0 ∷ xs;
      goes = (ap producers_next held_at, queued (if b then slot.Asking else slot.Idle), queues b is opens room, goes);
      over = ap producers_next idle;
    };
    exporter = same;
  }

  -- where no batch is full it goes on no more
  pub puts_quietly : is_sampled span ≡ true → nat_le s.control.batch_size number ≡ false →
      s.control.closed ≡ false → length s.waiting < s.control.queue_size →
      OffersSpan calls s span (taken span s.control.flag s.control.messages s)
  puts_quietly sampled is opens room = accepts false sampled is opens room [] []
      (taken span s.control.flag s.control.messages s)
      (ap (λ l. record s {
        waiting = s.waiting ++ span ∷ [];
        control = record s.control { counter = number; slots = l };
      }) (sym (put_twice s.control.slots slot.Idle holding at)))
      at refl

  -- where the export of a batch was asked for already, it asks no more
  asking_at : slice_get (queued slot.Asking).control.slots 0 ≡ Some slot.Asking
  asking_at = queued_at slot.Asking

  pub puts_asked : is_sampled span ≡ true → nat_le s.control.batch_size number ≡ true →
      s.control.closed ≡ false → length s.waiting < s.control.queue_size → s.control.flag ≡ true →
      OffersSpan calls s span (taken span s.control.flag s.control.messages s)
  puts_asked sampled is opens room flag =
      let idle : Machine E = record (queued slot.Asking) {
        control = record (queued slot.Asking).control {
          slots = slice_set (queued slot.Asking).control.slots 0 slot.Idle;
        };
      } in
      let asks : IsStep calls (queued slot.Asking) (step.Ask 0) outcome.AlreadyAsked idle =
      stepped calls (queued slot.Asking) (step.Ask 0) outcome.AlreadyAsked idle (queued_sound true room)
      (asking_at, flag, refl) (record { exporter = refl; hand = refl; waiting = refl })
      (sound_slot (counts (queued slot.Asking)) 0 slot.Asking slot.Idle asking_at (queued_sound true room) number
      (length (s.waiting ++ span ∷ [])) s.control.dropped (omega arith) (omega arith) (omega arith)
      (omega (arith, one_longer, room)) sound.fits.dropped_fits) in
      accepts true sampled is opens room (step.Ask 0 ∷ []) (outcome.AlreadyAsked ∷ [])
      (taken span s.control.flag s.control.messages s) (
        ap producers_next asking_at,
        idle,
        asks,
        ap (λ l. record s {
          waiting = s.waiting ++ span ∷ [];
          control = record s.control { counter = number; slots = l };
        }) (sym (put_thrice s.control.slots slot.Idle holding slot.Asking at)),
      )
      at refl

  -- where it was not, it may ask
  abbrev posting : Machine E
  posting = record (queued slot.Asking) {
    control = record (queued slot.Asking).control {
      flag = true;
      slots = slice_set (queued slot.Asking).control.slots 0 slot.Posting;
    };
  }

  posting_at : slice_get posting.control.slots 0 ≡ Some slot.Posting
  posting_at = put_get (queued slot.Asking).control.slots slot.Asking slot.Posting asking_at

  posting_sound : length s.waiting < s.control.queue_size → s.control.flag ≡ false → IsSound (counts posting)
  posting_sound room clear =
      sound_may_post (counts (queued slot.Asking)) 0 asking_at clear (queued_sound true room)

  may_post : length s.waiting < s.control.queue_size → s.control.flag ≡ false →
      IsStep calls (queued slot.Asking) (step.Ask 0) outcome.MayPost posting
  may_post room clear = stepped calls (queued slot.Asking) (step.Ask 0) outcome.MayPost posting
      (queued_sound true room) (asking_at, clear, refl) (record { exporter = refl; hand = refl; waiting = refl })
      (posting_sound room clear)

  -- the slot is the same after five changes
  put_back : (x : Slot) → slice_set (slice_set posting.control.slots 0 x) 0 slot.Idle ≡ s.control.slots
  put_back x = put_five s.control.slots slot.Idle holding slot.Asking slot.Posting x at

  pub puts_posted : is_sampled span ≡ true → nat_le s.control.batch_size number ≡ true →
      s.control.closed ≡ false → length s.waiting < s.control.queue_size → s.control.flag ≡ false →
      length s.control.messages < 64 →
      OffersSpan calls s span (taken span true (s.control.messages ++ message.Export ∷ []) s)
  puts_posted sampled is opens room clear places =
      let idle : Machine E = record posting {
        control = record posting.control {
          messages = s.control.messages ++ message.Export ∷ [];
          slots = slice_set posting.control.slots 0 slot.Idle;
        };
      } in
      let crowded : (length s.control.messages == 64) ≡ false = grind (arith, common_steps, places) in
      let posts : IsStep calls posting (step.Post 0) outcome.Posted idle =
      stepped calls posting (step.Post 0) outcome.Posted idle (posting_sound room clear)
      (posting_at, opens, crowded, refl) (record { exporter = refl; hand = refl; waiting = refl })
      (sound_posted (counts posting) 0 slot.Posting slot.Idle posting_at (posting_sound room clear) message.Export opens
      places (omega arith) (omega arith) (λ q n. omega arith) (omega arith)) in
      accepts true sampled is opens room (step.Ask 0 ∷ step.Post 0 ∷ [])
      (outcome.MayPost ∷ outcome.Posted ∷ [])
      (taken span true (s.control.messages ++ message.Export ∷ []) s) (
        ap producers_next asking_at,
        posting,
        may_post room clear,
        (
          ap producers_next posting_at,
          idle,
          posts,
          ap (λ l. record s {
            waiting = s.waiting ++ span ∷ [];
            control = record s.control {
              counter = number;
              flag = true;
              messages = s.control.messages ++ message.Export ∷ [];
              slots = l;
            };
          }) (sym (put_four s.control.slots slot.Idle holding slot.Asking slot.Posting at)),
        ),
      )
      at refl

  -- a wish that finds the control queue full is taken back
  pub puts_crowded : is_sampled span ≡ true → nat_le s.control.batch_size number ≡ true →
      s.control.closed ≡ false → length s.waiting < s.control.queue_size → s.control.flag ≡ false →
      (length s.control.messages == 64) ≡ true →
      OffersSpan calls s span (taken span false s.control.messages s)
  puts_crowded sampled is opens room clear crowded =
      let resetting : Machine E = record posting {
        control = record posting.control { slots = slice_set posting.control.slots 0 slot.Resetting };
      } in
      let idle : Machine E = record resetting {
        control = record resetting.control {
          flag = false;
          slots = slice_set resetting.control.slots 0 slot.Idle;
        };
      } in
      let at_reset : slice_get resetting.control.slots 0 ≡ Some slot.Resetting =
      put_get posting.control.slots slot.Posting slot.Resetting posting_at in
      let after : IsSound (counts resetting) =
      sound_slot (counts posting) 0 slot.Posting slot.Resetting posting_at (posting_sound room clear) number
      (length (s.waiting ++ span ∷ [])) s.control.dropped (omega arith) (omega arith) (omega arith)
      (omega (arith, one_longer, room)) sound.fits.dropped_fits in
      let fails : IsStep calls posting (step.Post 0) outcome.Full resetting =
      stepped calls posting (step.Post 0) outcome.Full resetting (posting_sound room clear)
      (posting_at, opens, crowded, refl) (record { exporter = refl; hand = refl; waiting = refl }) after in
      let resets : IsStep calls resetting (step.Reset 0) outcome.ResetDone idle =
      stepped calls resetting (step.Reset 0) outcome.ResetDone idle after (at_reset, refl)
      (record { exporter = refl; hand = refl; waiting = refl }) (sound_reset (counts resetting) 0 at_reset after) in
      accepts true sampled is opens room (step.Ask 0 ∷ step.Post 0 ∷ step.Reset 0 ∷ [])
      (outcome.MayPost ∷ outcome.Full ∷ outcome.ResetDone ∷ [])
      (taken span false s.control.messages s) (
        ap producers_next asking_at,
        posting,
        may_post room clear,
        (
          ap producers_next posting_at,
          resetting,
          fails,
          (
            ap producers_next at_reset,
            idle,
            resets,
            ap (λ l. record s {
              waiting = s.waiting ++ span ∷ [];
              control = record s.control { counter = number; flag = false; slots = l };
            }) (sym (put_back slot.Resetting)),
          ),
        ),
      )
      at refl
