-- Who asked for a shutdown has Ok where its own drain, which is the last that the worker loaded, found memory, and then
-- the queue is closed; else it has that there was none, and the queue is open.
use Rattle.std.proofs.Common.{◌≡◌, ◌≢◌, ◌∙◌, inl, inr, refl, ap, sym, ℕ, zero, suc, ◌+◌, ◌==◌, Bool, true, false, List, [], ◌∷◌, Option, Some, None, Result, Ok, Err, length, slice_get, slice_set, sum_by, if◌then◌else◌, arith}
use Rattle.std.proofs.lemmas.Bool.Decides.{eqb_tells}
use Rattle.circular_buffer.proofs.Places.{slice_get-set_same, slice_get-set_other}
use Rattle.otel_export.specs.declared.error.OTelSdkError.{OTelSdkError}
use Rattle.otel_export.specs.declared.error.OTelSdkError.TheVariants.{OutOfMemory}
use Rattle.otel_batch.specs.Messages.{message_names}
use Rattle.otel_batch.specs.Slots.{is_answered, slot_waits}
use Rattle.otel_batch.specs.Workers.{closing_of, is_closing, is_gone, worker_names}
use Rattle.otel_batch.specs.MachineState.{Machine, Counts, counts, put_slot, slot_at}
use Rattle.otel_batch.specs.SoundMachine.{IsSound}
use Rattle.otel_batch.specs.WorkerSteps.{TakeRow, ClearRow, LoadRow, PullRow, HandOverRow, SubtractRow}
use Rattle.otel_batch.specs.DrainEnds.{FinishRow, FinishRowFor, CloseRow, IsDropped, end_of_drain}
use Rattle.otel_batch.specs.PermittedStep.{IsPermitted}
use Rattle.otel_batch.specs.GoingOn.{next_step}
use Rattle.otel_batch.specs.declared.machine.state.Slot.{Slot}
use Rattle.otel_batch.specs.declared.machine.state.Slot.TheVariants as slot
use Rattle.otel_batch.specs.declared.machine.state.Worker.{Worker}
use Rattle.otel_batch.specs.declared.machine.state.Worker.TheVariants as worker
use Rattle.otel_batch.specs.declared.machine.state.Why.{Why}
use Rattle.otel_batch.specs.declared.machine.state.Why.TheVariants as why
use Rattle.otel_batch.specs.declared.machine.step.Outcome.{Outcome}
use Rattle.otel_batch.specs.declared.machine.step.Outcome.TheVariants as outcome
use Rattle.otel_batch.specs.declared.machine.step.Step.{Step}
use Rattle.otel_export.specs.declared.trace.export.SpanExporter.{Ghosts}
use Rattle.otel_batch.proofs.BusyLemmas.{is_busy}
use Rattle.otel_batch.specs.WorkedOff.{GoesBy, next_of_worker, own_refusal, refusal_next}
use Rattle.otel_processors.specs.QueueRequests.{ShutdownAnswers}
use Rattle.otel_processors.proofs.RequestKindLemmas.{finishing_why, flushing, next_none, requests_in}
use Rattle.otel_processors.proofs.LoneProducerLemmas.{IsAlone, next_alone}
use Rattle.otel_processors.proofs.Worker.{has_next, next_permitted}

-- whether the drain that the worker is in was refused memory, and what the producer's answer says of it, if it has one
pub record TellsShutdown (refused : Bool) (s : Counts) : Type 0 where
  pub held : is_busy s.control.worker ≡ true → s.control.refused ≡ refused
  pub found : is_closing s.control.worker ≡ true → refused ≡ false
  pub answered : (answer : Result (Unit {0}) OTelSdkError) → slot_at s 0 ≡ Some (slot.Answered answer) →
      ShutdownAnswers refused answer s.control.closed

-- a producer without an answer has none while the slots stay
module _ (s t : Counts) (unanswered : is_answered (slot_at s 0) ≡ false) (same : t.control.slots ≡ s.control.slots) where
  still : {A : Type 0} (answer : Result (Unit {0}) OTelSdkError) → slot_at t 0 ≡ Some (slot.Answered answer) → A
  still answer has = absurd (let yes : is_answered (slot_at s 0) ≡ true = rw (← same, has) refl in cc)

  -- the worker is in a drain
  drains : (refused : Bool) (w : Worker) → t.control.worker ≡ w → is_closing w ≡ false →
      t.control.refused ≡ refused → TellsShutdown refused t
  drains refused w is closes keeps = record {
    held = λ h. keeps;
    found = λ h. absurd (let no : is_closing t.control.worker ≡ false = rw is closes in cc);
    answered = λ answer has. still answer has;
  }

  -- the worker is in none
  rests : (refused : Bool) (w : Worker) → t.control.worker ≡ w → is_busy w ≡ false → is_closing w ≡ false →
      TellsShutdown refused t
  rests refused w is idle closes = record {
    held = λ h. absurd (let no : is_busy t.control.worker ≡ false = rw is idle in cc);
    found = λ h. absurd (let no : is_closing t.control.worker ≡ false = rw is closes in cc);
    answered = λ answer has. still answer has;
  }

take_tells : (b : Bool) (s : Counts) (o : Outcome) (t : Counts) → is_answered (slot_at s 0) ≡ false →
    TellsShutdown b s → TakeRow s o t → TellsShutdown (refusal_next b o) t
take_tells b s outcome.Nothing t n h row = rw row.2 h
take_tells b s outcome.NotEnabled t n h row = rw row.1 h
take_tells b s outcome.TookExport t n h row =
    rests s t n (ap (λ c. c.control.slots) row.2) b _ (ap (λ c. c.control.worker) row.2) refl refl
take_tells b s (outcome.TookFlush p) t n h row =
    rests s t n (ap (λ c. c.control.slots) row.2) b _ (ap (λ c. c.control.worker) row.2) refl refl
take_tells b s (outcome.TookShutdown p) t n h row =
    rests s t n (ap (λ c. c.control.slots) row.2) b _ (ap (λ c. c.control.worker) row.2) refl refl
take_tells b s outcome.TookResource t n h row =
    rests s t n (ap (λ c. c.control.slots) row.2) b _ (ap (λ c. c.control.worker) row.2) refl refl
take_tells b s _ t n h row = absurd row

clear_tells : (b : Bool) (s : Counts) (o : Outcome) (t : Counts) → is_answered (slot_at s 0) ≡ false →
    TellsShutdown b s → ClearRow s o t → TellsShutdown (refusal_next b o) t
clear_tells b s outcome.Cleared t n h row =
    rests s t n (ap (λ c. c.control.slots) row.1) b _ (ap (λ c. c.control.worker) row.1) refl refl
clear_tells b s outcome.NotEnabled t n h row = rw row.1 h
clear_tells b s _ t n h row = absurd row

-- whatever a test says the worker does not close
one_of : (b : Bool) (w x : Worker) → is_closing w ≡ false → is_closing x ≡ false → is_closing (if b then w else x) ≡ false
one_of true w x h k = h
one_of false w x h k = k

load_tells : (b : Bool) (s : Counts) (o : Outcome) (t : Counts) → is_answered (slot_at s 0) ≡ false →
    TellsShutdown b s → LoadRow s o t → TellsShutdown (refusal_next b o) t
load_tells b s (outcome.Loaded k) t n h row =
    drains s t n (ap (λ c. c.control.slots) row.3) false _ (ap (λ c. c.control.worker) row.3)
    (one_of (k == 0) worker.Finishing worker.Pulling refl refl) (ap (λ c. c.control.refused) row.3)
load_tells b s outcome.NotEnabled t n h row = rw row.1 h
load_tells b s _ t n h row = absurd row

pull_tells : (b : Bool) (s : Counts) (o : Outcome) (t : Counts) → is_answered (slot_at s 0) ≡ false →
    TellsShutdown b s → PullRow s o t → TellsShutdown (refusal_next b o) t
pull_tells b s outcome.Empty t n h row =
    drains s t n (ap (λ c. c.control.slots) row.2) b _ (ap (λ c. c.control.worker) row.2)
    (one_of _ worker.Finishing worker.Handing refl refl)
    (ap (λ c. c.control.refused) row.2 ∙ h.held (rw row.0 refl))
pull_tells b s outcome.NoMemory t n h row =
    drains s t n (ap (λ c. c.control.slots) row.3) true _ (ap (λ c. c.control.worker) row.3) refl
    (ap (λ c. c.control.refused) row.3)
pull_tells b s outcome.Pulled t n h row =
    drains s t n (ap (λ c. c.control.slots) row.2) b _ (ap (λ c. c.control.worker) row.2)
    (one_of _ worker.Pulling worker.Handing refl refl)
    (ap (λ c. c.control.refused) row.2 ∙ h.held (rw row.0 refl))
pull_tells b s outcome.NotEnabled t n h row = rw row.1 h
pull_tells b s _ t n h row = absurd row

hand_over_tells : (b : Bool) (s : Counts) (o : Outcome) (t : Counts) → is_answered (slot_at s 0) ≡ false →
    TellsShutdown b s → HandOverRow s o t → TellsShutdown (refusal_next b o) t
hand_over_tells b s (outcome.HandedOver k e) t n h row =
    drains s t n (ap (λ c. c.control.slots) row.3) b _ (ap (λ c. c.control.worker) row.3) refl
    (ap (λ c. c.control.refused) row.3 ∙ h.held (rw row.0 refl))
hand_over_tells b s outcome.NotEnabled t n h row = rw row.1 h
hand_over_tells b s _ t n h row = absurd row

subtract_tells : (b : Bool) (s : Counts) (o : Outcome) (t : Counts) → is_answered (slot_at s 0) ≡ false →
    TellsShutdown b s → SubtractRow s o t → TellsShutdown (refusal_next b o) t
subtract_tells b s outcome.Subtracted t n h row =
    drains s t n (ap (λ c. c.control.slots) row.2) b _ (ap (λ c. c.control.worker) row.2)
    (one_of _ worker.Pulling worker.Finishing refl refl)
    (ap (λ c. c.control.refused) row.2 ∙ h.held (rw row.1 refl))
subtract_tells b s outcome.NotEnabled t n h row = rw row.1 h
subtract_tells b s _ t n h row = absurd row

-- a shutdown whose drain found no memory was answered so, and the queue is open
refusal_tells : (s t : Counts) (p : ℕ) → IsSound s → length s.control.slots ≡ 1 → is_answered (slot_at s 0) ≡ false →
    s.control.worker ≡ worker.Finishing → t ≡ put_slot (end_of_drain s worker.Ready) p (slot.Answered (Err OutOfMemory)) →
    TellsShutdown true t
refusal_tells s t p sound one n at is =
    let slots : t.control.slots ≡ slice_set s.control.slots p (slot.Answered (Err OutOfMemory)) =
    ap (λ c. c.control.slots) is in
    let ready : t.control.worker ≡ worker.Ready = ap (λ c. c.control.worker) is in
    let runs : is_gone s.control.worker ≡ false = rw at refl in
    let closed : t.control.closed ≡ false = ap (λ c. c.control.closed) is ∙ (sound.awaited.gone ∙ runs) in
    record {
      held = λ h. absurd (let no : is_busy t.control.worker ≡ false = rw ready refl in cc);
      found = λ h. absurd (let no : is_closing t.control.worker ≡ false = rw ready refl in cc);
      answered = λ given has. elim (eqb_tells 0 p) [
        | inl own ↦
            let at : slice_get (slice_set s.control.slots p (slot.Answered (Err OutOfMemory))) 0
            ≡ Some (slot.Answered (Err OutOfMemory)) =
            rw (← own.1) (slice_get-set_same s.control.slots 0 (slot.Answered (Err OutOfMemory)) (omega (arith, one))) in
            let both : Some (slot.Answered given) ≡ Some (slot.Answered (Err OutOfMemory)) =
            sym has ∙ (ap (λ l. slice_get l 0) slots ∙ at) in
            (cc, closed)
        | inr other ↦
            let at : slice_get (slice_set s.control.slots p (slot.Answered (Err OutOfMemory))) 0
            ≡ slice_get s.control.slots 0 =
            slice_get-set_other s.control.slots p 0 (slot.Answered (Err OutOfMemory)) other.1 in
            let before : slot_at s 0 ≡ Some (slot.Answered given) =
            sym at ∙ (sym (ap (λ l. slice_get l 0) slots) ∙ has) in
            absurd (let yes : is_answered (slot_at s 0) ≡ true = rw before refl in cc)
      ];
    }

finish_tells_for : (y : Why) (b : Bool) (s : Counts) (e : Option OTelSdkError) (t : Counts) → IsSound s →
    length s.control.slots ≡ 1 → is_answered (slot_at s 0) ≡ false → s.control.worker ≡ worker.Finishing →
    s.control.refused ≡ b → flushing.of_why y ≡ 0 → FinishRowFor y s e t → TellsShutdown b t
finish_tells_for why.Asked b s e t sound one n at keeps none row =
    rests s t n (ap (λ c. c.control.slots) row.1) b _ (ap (λ c. c.control.worker) row.1) refl refl
finish_tells_for why.Timer b s e t sound one n at keeps none row =
    rests s t n (ap (λ c. c.control.slots) row.1) b _ (ap (λ c. c.control.worker) row.1) refl refl
finish_tells_for (why.Flush p) b s e t sound one n at keeps none row = absurd (omega (arith, none))
finish_tells_for (why.Shutdown p) b s e t sound one n at keeps none row = shut s.control.refused b keeps row.1
  where
    shut : (c b : Bool) → c ≡ b → t ≡ (if c
        then put_slot (end_of_drain s worker.Ready) p (slot.Answered (Err OutOfMemory))
        else end_of_drain s (worker.Closing p)) → TellsShutdown b t
    shut true true e is = refusal_tells s t p sound one n at is
    shut false false e is =
        let closing : t.control.worker ≡ worker.Closing p = ap (λ c. c.control.worker) is in
        record {
          held = λ h. absurd (let no : is_busy t.control.worker ≡ false = rw closing refl in cc);
          found = λ h. refl;
          answered = λ answer has. still s t n (ap (λ c. c.control.slots) is) answer has;
        }
    shut true false e is = absurd (cc)
    shut false true e is = absurd (cc)

finish_tells : (b : Bool) (s : Counts) (o : Outcome) (t : Counts) → IsSound s → length s.control.slots ≡ 1 →
    is_answered (slot_at s 0) ≡ false → requests_in flushing s ≡ 0 → TellsShutdown b s → FinishRow s o t →
    TellsShutdown (refusal_next b o) t
finish_tells b s (outcome.Finished e) t sound one n none h row =
    finish_tells_for s.control.why b s e t sound one n row.0 (h.held (rw row.0 refl)) (finishing_why flushing s none row.0)
    row.1
finish_tells b s outcome.NotEnabled t sound one n none h row = rw row.1 h
finish_tells b s _ t sound one n none h row = absurd row

-- only the first producer is there
others_wait_not : (slots : List Slot) (p : ℕ) → length slots ≡ 1 → p ≢ 0 → slot_waits (slice_get slots p) ≡ 0
others_wait_not [] p one other = absurd (omega (arith, one))
others_wait_not (x ∷ []) zero one other = absurd (other refl)
others_wait_not (x ∷ []) (suc p) one other = refl
others_wait_not (x ∷ y ∷ ys) p one other = absurd (omega (arith, one))

waits_once : (o : Option Slot) → (n : ℕ) → n + 1 ≡ slot_waits o → n ≡ 0
waits_once None n e = absurd (omega (arith, e))
waits_once (Some slot.Idle) n e = absurd (omega (arith, e))
waits_once (Some (slot.Holding span k)) n e = absurd (omega (arith, e))
waits_once (Some slot.Refused) n e = absurd (omega (arith, e))
waits_once (Some slot.Asking) n e = absurd (omega (arith, e))
waits_once (Some slot.Posting) n e = absurd (omega (arith, e))
waits_once (Some slot.Resetting) n e = absurd (omega (arith, e))
waits_once (Some (slot.Waiting r)) n e = omega (arith, e)
waits_once (Some (slot.Answered r)) n e = absurd (omega (arith, e))

-- the one producer that is there asked for the shutdown that is completed, and has no other request
closes_for : (s : Counts) (p : ℕ) → IsSound s → length s.control.slots ≡ 1 → s.control.worker ≡ worker.Closing p →
    (p ≡ 0) × (sum_by (message_names 0) s.control.messages ≡ 0)
closes_for s p sound one is = elim (eqb_tells p 0) [
  | inl own ↦ (own.1, waits_once (slice_get s.control.slots 0) _ (at 0 own.0))
  | inr other ↦ absurd (
      let each = at p (same p) in
      let none = others_wait_not s.control.slots p one other.1 in
      omega (arith, each, none))
]
  where
    same : (n : ℕ) → (n == n) ≡ true
    same n = elim (eqb_tells n n) [ inl own ↦ own.0 | inr other ↦ absurd (other.1 refl) ]

    at : (q : ℕ) → (p == q) ≡ true → sum_by (message_names q) s.control.messages + 1 ≡ slot_waits (slice_get s.control.slots q)
    at q own =
        let named : worker_names q s.control.why s.control.worker ≡ 1 = rw (is, own) refl in
        let each = sound.awaited.each q in
        omega (arith, each, named)

close_tells : (p : ℕ) (b : Bool) (s : Counts) (o : Outcome) (t : Counts) → IsSound s → length s.control.slots ≡ 1 →
    s.control.worker ≡ worker.Closing p → TellsShutdown b s → CloseRow s o t → TellsShutdown (refusal_next b o) t
close_tells p b s (outcome.ShutDown k) t sound one is h row =
    let for = closes_for s p sound one is in
    let gone : t.control.worker ≡ worker.Gone = ap (λ c. c.control.worker) row.3 in
    let closing : closing_of s.control.worker ≡ 0 = rw is for.0 in
    let slot_is : slot_at t 0 ≡ Some (slot.Answered (Ok tt)) =
    dropped_none _ for.1 (row.1 0) ∙ (rw closing (slice_get-set_same s.control.slots 0 (slot.Answered (Ok tt)) (omega (arith, one)))) in
    record {
      held = λ busy. absurd (let no : is_busy t.control.worker ≡ false = rw gone refl in cc);
      found = λ closes. absurd (let no : is_closing t.control.worker ≡ false = rw gone refl in cc);
      answered = λ given has.
          let both : Some (slot.Answered given) ≡ Some (slot.Answered (Ok tt)) = sym has ∙ slot_is in
          let ok : given ≡ Ok tt = cc in
          rw (h.found (rw is refl)) (ok, ap (λ c. c.control.closed) row.3);
    }
  where
    dropped_none : (n : ℕ) → n ≡ 0 → {old new : Option Slot} → IsDropped n old new → new ≡ old
    dropped_none zero e kept = kept
    dropped_none (suc n) e kept = absurd (omega (arith, e))
close_tells p b s outcome.NotEnabled t sound one is h row = rw row.1 h
close_tells p b s _ t sound one is h row = absurd row

-- the worker's next step
next_tells : (w : Worker) (b : Bool) (s : Counts) (o : Outcome) (t : Counts) → s.control.worker ≡ w → IsSound s →
    length s.control.slots ≡ 1 → is_answered (slot_at s 0) ≡ false → requests_in flushing s ≡ 0 → TellsShutdown b s →
    IsPermitted s (next_step w) o t → TellsShutdown (refusal_next b o) t
next_tells worker.Ready b s o t is sound one n none h row = take_tells b s o t n h row
next_tells worker.Clearing b s o t is sound one n none h row = clear_tells b s o t n h row
next_tells (worker.Loading y) b s o t is sound one n none h row = load_tells b s o t n h row
next_tells worker.Pulling b s o t is sound one n none h row = pull_tells b s o t n h row
next_tells worker.Handing b s o t is sound one n none h row = hand_over_tells b s o t n h row
next_tells (worker.Subtracting k) b s o t is sound one n none h row = subtract_tells b s o t n h row
next_tells worker.Finishing b s o t is sound one n none h row = finish_tells b s o t sound one n none h row
next_tells (worker.Closing p) b s o t is sound one n none h row = close_tells p b s o t sound one is h row
next_tells worker.Gone b s o t is sound one n none h row = take_tells b s o t n h row

module _ {E : Type 0} (calls : Ghosts E) where
  -- so it is all along the worker's run
  pub goes_tells_shutdown : (b : Bool) (s : Machine E) (xs : List Step) (os : List Outcome) (t : Machine E) →
      IsSound (counts s) → IsAlone (counts s) → requests_in flushing (counts s) ≡ 0 → TellsShutdown b (counts s) →
      GoesBy calls next_of_worker s xs os t → TellsShutdown (own_refusal b os) (counts t)
  goes_tells_shutdown b s [] [] t sound a none h goes = rw goes h
  goes_tells_shutdown b s (x ∷ xs) (o ∷ os) t sound a none h goes =
      let has = has_next s.control x goes.0 in
      let row = next_permitted calls s x o goes.1 has goes.2 in
      let stays = next_none flushing s.control.worker (counts s) o (counts goes.1) refl none row in
      let next = next_tells s.control.worker b (counts s) o (counts goes.1) refl sound a.one has.unanswered none h row in
      let alone = next_alone s.control.worker (counts s) o (counts goes.1) sound a has.unanswered row in
      goes_tells_shutdown (refusal_next b o) goes.1 xs os t goes.2.sound alone stays.none next goes.3
  goes_tells_shutdown b s [] (o ∷ os) t sound a none h goes = absurd goes
  goes_tells_shutdown b s (x ∷ xs) [] t sound a none h goes = absurd goes
