-- What an end leaves of the queue: the span goes last among those that wait, or was refused.
use Rattle.std.proofs.Common.{◌≡◌, ◌⊎◌, ◌∙◌, inl, inr, refl, ap, sym, ℕ, Bool, true, false, List, [], ◌∷◌, ◌++◌, Option, Some, None, length, slice_get, slice_set, subst, arith}
use Rattle.otel_export.specs.PlainSpanData.{PlainSpanData, is_sampled}
use Rattle.otel_export.specs.StoredBatches.{one_more}
use Rattle.otel_batch.specs.Slots.{is_holding, is_idle}
use Rattle.otel_batch.specs.MachineState.{Machine, counts, slot_at}
use Rattle.otel_batch.specs.MachineRun.{IsStep}
use Rattle.otel_batch.specs.MovedSpans.{MovesSpans, Keeps}
use Rattle.otel_batch.specs.ProducerSteps.{OfferRow, SendRow}
use Rattle.otel_batch.specs.declared.machine.state.Slot.{Slot}
use Rattle.otel_batch.specs.declared.machine.state.Slot.TheVariants as slot
use Rattle.otel_batch.specs.declared.machine.step.Outcome.{Outcome}
use Rattle.otel_batch.specs.declared.machine.step.Outcome.TheVariants as outcome
use Rattle.otel_batch.specs.declared.machine.step.Step.{Step}
use Rattle.otel_batch.specs.declared.machine.step.Step.TheVariants as step
use Rattle.otel_export.specs.declared.trace.export.SpanExporter.{Ghosts}
use Rattle.otel_batch.specs.WorkedOff.{GoesBy, next_of_producer, producers_next}
use Rattle.otel_processors.proofs.Producer.{is_at_work, next_goes, send_goes}

-- what a producer's steps leave alone, and that it is idle or at work
pub record LeavesRest {E : Type 0} (s t : Machine E) : Type 0 where
  pub exporter : t.exporter ≡ s.exporter
  pub hand : t.hand ≡ s.hand
  pub slots : length t.control.slots ≡ length s.control.slots
  pub worker : t.control.worker ≡ s.control.worker
  pub closed : t.control.closed ≡ s.control.closed
  pub at_work : is_at_work (slot_at (counts t) 0) ≡ true

-- the spans that wait and the count of drops are the same
pub record QueuesNone {E : Type 0} (s t : Machine E) : Type 0 where
  pub waiting : t.waiting ≡ s.waiting
  pub dropped : t.control.dropped ≡ s.control.dropped

-- the span waits last
pub record QueuesLast {E : Type 0} (s : Machine E) (span : PlainSpanData) (t : Machine E) : Type 0 where
  pub waiting : t.waiting ≡ s.waiting ++ span ∷ []
  pub dropped : t.control.dropped ≡ s.control.dropped

-- the span found the queue full, which is counted
pub record CountsDrop {E : Type 0} (s t : Machine E) : Type 0 where
  pub full : length s.waiting ≡ s.control.queue_size
  pub waiting : t.waiting ≡ s.waiting
  pub dropped : t.control.dropped ≡ one_more s.control.dropped

-- what became of a span that was sent: into an open queue it goes, or finds that full
abbrev pub SpanGoes : {E : Type 0} → Bool → Machine E → PlainSpanData → Machine E → Type 0
SpanGoes true s span t = QueuesNone s t
SpanGoes false s span t = QueuesLast s span t ⊎ CountsDrop s t

-- the steps of the producer but the send move no span
keeps_by : {E : Type 0} (calls : Ghosts E) (s : Machine E) (x : Step) (o : Outcome) (t : Machine E)
    (at : Option Slot) → is_holding at ≡ false → producers_next at ≡ Some x → MovesSpans calls s x o t → Keeps s t
keeps_by calls s (step.Undo p) o t at holds next moved = moved
keeps_by calls s (step.Ask p) o t at holds next moved = moved
keeps_by calls s (step.Post p) o t at holds next moved = moved
keeps_by calls s (step.Reset p) o t at holds next moved = moved
keeps_by calls s x o t (Some (slot.Holding span n)) holds next moved = absurd (cc)
keeps_by calls s x o t (Some slot.Refused) holds next moved = absurd (let no : Some (step.Undo 0) ≡ Some x = next in cc)
keeps_by calls s x o t (Some slot.Asking) holds next moved = absurd (let no : Some (step.Ask 0) ≡ Some x = next in cc)
keeps_by calls s x o t (Some slot.Posting) holds next moved = absurd (let no : Some (step.Post 0) ≡ Some x = next in cc)
keeps_by calls s x o t (Some slot.Resetting) holds next moved = absurd (let no : Some (step.Reset 0) ≡ Some x = next in cc)
keeps_by calls s x o t _ holds next moved = absurd (let no : None ≡ Some x = next in cc)

module _ {E : Type 0} (calls : Ghosts E) where
  -- without a span to send
  pub rest_goes : (s : Machine E) (xs : List Step) (os : List Outcome) (t : Machine E) →
      is_at_work (slot_at (counts s) 0) ≡ true → is_holding (slot_at (counts s) 0) ≡ false →
      GoesBy calls next_of_producer s xs os t → LeavesRest s t × QueuesNone s t
  rest_goes s [] [] t works holds goes = rw goes (
    record { exporter = refl; hand = refl; slots = refl; worker = refl; closed = refl; at_work = works },
    record { waiting = refl; dropped = refl },
  )
  rest_goes s (x ∷ xs) (o ∷ os) t works holds goes =
      let m = goes.1 in
      let on = next_goes (counts s) x o (counts m) (slot_at (counts s) 0) refl holds goes.0 goes.2.permitted in
      let kept = keeps_by calls s x o m (slot_at (counts s) 0) holds goes.0 goes.2.moved in
      let rest = rest_goes m xs os t (rw on.puts.slot on.at_work) (rw on.puts.slot on.holds_none) goes.3 in (
        record {
          exporter = rest.0.exporter ∙ kept.exporter;
          hand = rest.0.hand ∙ kept.hand;
          slots = rest.0.slots ∙ on.puts.slots;
          worker = rest.0.worker ∙ on.puts.worker;
          closed = rest.0.closed ∙ on.puts.closed;
          at_work = rest.0.at_work;
        },
        record { waiting = rest.1.waiting ∙ kept.waiting; dropped = rest.1.dropped ∙ on.dropped },
      )
  rest_goes s [] (o ∷ os) t works holds goes = absurd goes
  rest_goes s (x ∷ xs) [] t works holds goes = absurd goes

  -- after the send of the span that the producer holds
  after_send : (s m t : Machine E) (o : Outcome) (span : PlainSpanData) (n : ℕ) →
      slot_at (counts s) 0 ≡ Some (slot.Holding span n) → SendRow (counts s) 0 o (counts m) →
      MovesSpans calls s (step.Send 0) o m → LeavesRest m t → QueuesNone m t →
      SpanGoes s.control.closed s span t × (m.exporter ≡ s.exporter) × (m.hand ≡ s.hand)
  after_send s m t outcome.Accepted span n at row moved rest none =
      let waits : m.waiting ≡ s.waiting ++ span ∷ [] = rw at at moved.waiting in (
        rw row.1 (inl (record {
          waiting = none.waiting ∙ waits;
          dropped = none.dropped ∙ ap (λ c. c.control.dropped) row.3;
        })),
        moved.exporter,
        moved.hand,
      )
  after_send s m t outcome.Full span n at row moved rest none = (
    rw row.1 (inr (record {
      full = row.2;
      waiting = none.waiting ∙ moved.waiting;
      dropped = none.dropped ∙ ap (λ c. c.control.dropped) row.3;
    })),
    moved.exporter,
    moved.hand,
  )
  after_send s m t outcome.Closed span n at row moved rest none = (
    rw row.1 (record {
      waiting = none.waiting ∙ moved.waiting;
      dropped = none.dropped ∙ ap (λ c. c.control.dropped) row.2;
    }),
    moved.exporter,
    moved.hand,
  )
  after_send s m t outcome.NotEnabled span n at row moved rest none =
      absurd (let yes : is_holding (slot_at (counts s) 0) ≡ true = rw at refl in let no = row.0 in cc)
  after_send s m t _ span n at row moved rest none = absurd row

  -- with a span to send
  pub span_goes : (s : Machine E) (xs : List Step) (os : List Outcome) (t : Machine E) (span : PlainSpanData) (n : ℕ) →
      slot_at (counts s) 0 ≡ Some (slot.Holding span n) → GoesBy calls next_of_producer s xs os t →
      next_of_producer t.control ≡ None → LeavesRest s t × SpanGoes s.control.closed s span t
  span_goes s [] [] t span n at goes over =
      absurd (let next : next_of_producer t.control ≡ Some (step.Send 0) = rw (goes, at) refl in cc)
  span_goes s (x ∷ xs) (o ∷ os) t span n at goes over =
      let m = goes.1 in
      let is : x ≡ step.Send 0 = let next : Some (step.Send 0) ≡ Some x = rw at at goes.0 in cc in
      let row : SendRow (counts s) 0 o (counts m) = rw is at goes.2.permitted in
      let on = send_goes (counts s) o (counts m) span n at row in
      let rest = rest_goes m xs os t (rw on.puts.slot on.at_work) (rw on.puts.slot on.holds_none) goes.3 in
      let moved : MovesSpans calls s (step.Send 0) o m = rw is at goes.2.moved in
      let after = after_send s m t o span n at row moved rest.0 rest.1 in (
        record {
          exporter = rest.0.exporter ∙ after.1;
          hand = rest.0.hand ∙ after.2;
          slots = rest.0.slots ∙ on.puts.slots;
          worker = rest.0.worker ∙ on.puts.worker;
          closed = rest.0.closed ∙ on.puts.closed;
          at_work = rest.0.at_work;
        },
        after.0,
      )
  span_goes s [] (o ∷ os) t span n at goes over = absurd goes
  span_goes s (x ∷ xs) [] t span n at goes over = absurd goes

-- a producer with no span that is not waiting is idle
idle_is : (at : Option Slot) → is_at_work at ≡ true → producers_next at ≡ None → at ≡ Some slot.Idle
idle_is (Some slot.Idle) works next = refl
idle_is None works next = absurd (cc)
idle_is (Some (slot.Waiting r)) works next = absurd (cc)
idle_is (Some (slot.Answered a)) works next = absurd (cc)
idle_is (Some (slot.Holding span n)) works next = absurd (let no : Some (step.Send 0) ≡ None = next in cc)
idle_is (Some slot.Refused) works next = absurd (let no : Some (step.Undo 0) ≡ None = next in cc)
idle_is (Some slot.Asking) works next = absurd (let no : Some (step.Ask 0) ≡ None = next in cc)
idle_is (Some slot.Posting) works next = absurd (let no : Some (step.Post 0) ≡ None = next in cc)
idle_is (Some slot.Resetting) works next = absurd (let no : Some (step.Reset 0) ≡ None = next in cc)

-- one slot, by its element
pub one_slot : (slots : List Slot) (x : Slot) → length slots ≡ 1 → slice_get slots 0 ≡ Some x → slots ≡ x ∷ []
one_slot (y ∷ []) x one at = let same : y ≡ x = cc in ap (λ z. z ∷ []) same
one_slot [] x one at = absurd (let no : None ≡ Some x = at in cc)
one_slot (y ∷ (z ∷ zs)) x one at = absurd (omega (arith, one))

-- the producer's work is over: its slot is idle
pub idle_at_end : {E : Type 0} (s t : Machine E) → length s.control.slots ≡ 1 → LeavesRest s t →
    next_of_producer t.control ≡ None → t.control.slots ≡ slot.Idle ∷ []
idle_at_end s t one leaves over = one_slot t.control.slots slot.Idle (leaves.slots ∙ one)
    (idle_is (slot_at (counts t) 0) leaves.at_work over)

-- what an offer leaves: the span is held where it is sampled, and nothing else changes
pub record Offers {E : Type 0} (s : Machine E) (span : PlainSpanData) (m : Machine E) : Type 0 where
  pub leaves : LeavesRest s m
  pub none : QueuesNone s m
  pub queue_size : m.control.queue_size ≡ s.control.queue_size
  pub holds : is_sampled span ≡ true → (n : ℕ) × (slot_at (counts m) 0 ≡ Some (slot.Holding span n))
  pub skips : is_sampled span ≡ false → is_holding (slot_at (counts m) 0) ≡ false

offer_leaves : {E : Type 0} (calls : Ghosts E) (s : Machine E) (span : PlainSpanData) (o : Outcome) (m : Machine E) →
    s.control.slots ≡ slot.Idle ∷ [] → OfferRow (counts s) 0 span o (counts m) → Keeps s m → Offers s span m
offer_leaves calls s span outcome.Skipped m idle row moved =
    let slots : m.control.slots ≡ slot.Idle ∷ [] = ap (λ c. c.control.slots) row.2 ∙ idle in
    record {
      leaves = record {
        exporter = moved.exporter;
        hand = moved.hand;
        slots = ap (λ c. length c.control.slots) row.2;
        worker = ap (λ c. c.control.worker) row.2;
        closed = ap (λ c. c.control.closed) row.2;
        at_work = rw slots refl;
      };
      none = record { waiting = moved.waiting; dropped = ap (λ c. c.control.dropped) row.2 };
      queue_size = ap (λ c. c.control.queue_size) row.2;
      holds = λ sampled. absurd (let no = row.1 in cc);
      skips = λ unsampled. rw slots refl;
    }
offer_leaves calls s span (outcome.Counted n) m idle row moved =
    let slots : m.control.slots ≡ slot.Holding span n ∷ [] =
    ap (λ c. c.control.slots) row.3 ∙ ap (λ l. slice_set l 0 (slot.Holding span n)) idle in
    record {
      leaves = record {
        exporter = moved.exporter;
        hand = moved.hand;
        slots = ap length slots ∙ sym (ap length idle);
        worker = ap (λ c. c.control.worker) row.3;
        closed = ap (λ c. c.control.closed) row.3;
        at_work = rw slots refl;
      };
      none = record { waiting = moved.waiting; dropped = ap (λ c. c.control.dropped) row.3 };
      queue_size = ap (λ c. c.control.queue_size) row.3;
      holds = λ sampled. (n, rw slots refl);
      skips = λ unsampled. absurd (let yes = row.1 in cc);
    }
offer_leaves calls s span outcome.NotEnabled m idle row moved =
    absurd (let yes : is_idle (slot_at (counts s) 0) ≡ true = rw idle refl in let no = row.0 in cc)
offer_leaves calls s span _ m idle row moved = absurd row

-- an end by its offer and what follows: what becomes of the span, and that the producer is idle
pub record EndsIdle {E : Type 0} (s : Machine E) (span : PlainSpanData) (t : Machine E) : Type 0 where
  pub leaves : LeavesRest s t
  pub goes : is_sampled span ≡ true → SpanGoes s.control.closed s span t
  pub goes_open : s.control.closed ≡ false → is_sampled span ≡ true → QueuesLast s span t ⊎ CountsDrop s t
  pub skips : is_sampled span ≡ false → QueuesNone s t
  pub idle : t.control.slots ≡ slot.Idle ∷ []

both_leave : {E : Type 0} (s m t : Machine E) → LeavesRest s m → LeavesRest m t → LeavesRest s t
both_leave s m t first second = record {
  exporter = second.exporter ∙ first.exporter;
  hand = second.hand ∙ first.hand;
  slots = second.slots ∙ first.slots;
  worker = second.worker ∙ first.worker;
  closed = second.closed ∙ first.closed;
  at_work = second.at_work;
}

-- into an open queue it goes, or finds that full
goes_in : {E : Type 0} (s : Machine E) (span : PlainSpanData) (t : Machine E) (b : Bool) → b ≡ false →
    SpanGoes b s span t → QueuesLast s span t ⊎ CountsDrop s t
goes_in s span t false e goes = goes
goes_in s span t true e goes = absurd (cc)

none_then : {E : Type 0} (s m t : Machine E) (span : PlainSpanData) (b : Bool) → QueuesNone s m →
    m.control.queue_size ≡ s.control.queue_size → SpanGoes b m span t → SpanGoes b s span t
none_then s m t span true none size goes =
    record { waiting = goes.waiting ∙ none.waiting; dropped = goes.dropped ∙ none.dropped }
none_then s m t span false none size (inl last) = inl (record {
  waiting = last.waiting ∙ ap (λ l. l ++ span ∷ []) none.waiting;
  dropped = last.dropped ∙ none.dropped;
})
none_then s m t span false none size (inr full) = inr (record {
  full = ap length (sym none.waiting) ∙ (full.full ∙ size);
  waiting = full.waiting ∙ none.waiting;
  dropped = full.dropped ∙ ap one_more none.dropped;
})

module _ {E : Type 0} (calls : Ghosts E) where
  pub ends_idle : (s m t : Machine E) (span : PlainSpanData) (o : Outcome) (xs : List Step) (os : List Outcome) →
      s.control.slots ≡ slot.Idle ∷ [] → IsStep calls s (step.Offer 0 span) o m →
      GoesBy calls next_of_producer m xs os t → next_of_producer t.control ≡ None → EndsIdle s span t
  ends_idle s m t span o xs os idle steps goes over =
      let offers = offer_leaves calls s span o m idle steps.permitted steps.moved in
      let one : length s.control.slots ≡ 1 = ap length idle in
      by_sampled (is_sampled span) refl offers one
    where
      by_sampled : (b : Bool) → is_sampled span ≡ b → Offers s span m → length s.control.slots ≡ 1 →
          EndsIdle s span t
      by_sampled true is offers one =
          let holds = offers.holds is in
          let went = span_goes calls m xs os t span holds.0 holds.1 goes over in
          let leaves = both_leave s m t offers.leaves went.0 in
          let goes_on = none_then s m t span s.control.closed offers.none offers.queue_size
          (subst (λ (b : Bool). SpanGoes b m span t) offers.leaves.closed went.1) in
          record {
            leaves = leaves;
            goes = λ _. goes_on;
            goes_open = λ runs _. goes_in s span t s.control.closed runs goes_on;
            skips = λ no. absurd (cc);
            idle = idle_at_end s t one leaves over;
          }
      by_sampled false is offers one =
          let went = rest_goes calls m xs os t offers.leaves.at_work (offers.skips is) goes in
          let leaves = both_leave s m t offers.leaves went.0 in
          record {
            leaves = leaves;
            goes = λ yes. absurd (cc);
            goes_open = λ runs yes. absurd (cc);
            skips = λ _. record {
              waiting = went.1.waiting ∙ offers.none.waiting;
              dropped = went.1.dropped ∙ offers.none.dropped;
            };
            idle = idle_at_end s t one leaves over;
          }
