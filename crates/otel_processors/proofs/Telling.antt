-- Who asked for a flush has the answer of its own drain, which is the last that the worker loaded.
use Rattle.std.proofs.Common.{◌≡◌, ◌∙◌, inl, inr, refl, ap, sym, ℕ, true, false, List, [], ◌∷◌, Option, Some, None, Result, length, slice_get, slice_set, arith}
use Rattle.std.proofs.lemmas.Bool.Decides.{eqb_tells}
use Rattle.circular_buffer.proofs.Places.{slice_get-set_same, slice_get-set_other}
use Rattle.otel_export.specs.declared.error.OTelSdkError.{OTelSdkError}
use Rattle.otel_export.specs.declared.error.OTelSdkError.TheVariants.{OutOfMemory}
use Rattle.otel_batch.specs.Slots.{is_answered}
use Rattle.otel_batch.specs.MachineState.{Machine, Counts, counts, put_slot, slot_at}
use Rattle.otel_batch.specs.SoundMachine.{IsSound}
use Rattle.otel_batch.specs.DrainResult.{IsErrorOf}
use Rattle.otel_batch.specs.WorkerSteps.{TakeRow, ClearRow, LoadRow, PullRow, HandOverRow, SubtractRow}
use Rattle.otel_batch.specs.DrainEnds.{FinishRow, FinishRowFor, end_of_drain}
use Rattle.otel_batch.specs.PermittedStep.{IsPermitted}
use Rattle.otel_batch.specs.GoingOn.{next_step}
use Rattle.otel_batch.specs.declared.machine.state.Slot.TheVariants as slot
use Rattle.otel_batch.specs.declared.machine.state.Worker.{Worker}
use Rattle.otel_batch.specs.declared.machine.state.Worker.TheVariants as worker
use Rattle.otel_batch.specs.declared.machine.state.Why.{Why}
use Rattle.otel_batch.specs.declared.machine.state.Why.TheVariants as why
use Rattle.otel_batch.specs.declared.machine.step.Outcome.{Outcome}
use Rattle.otel_batch.specs.declared.machine.step.Outcome.TheVariants as outcome
use Rattle.otel_batch.specs.declared.machine.step.Step.{Step}
use Rattle.otel_export.specs.declared.trace.export.SpanExporter.{Ghosts}
use Rattle.otel_batch.proofs.Answering.{kept_error, refusal_kept}
use Rattle.otel_batch.proofs.BusyLemmas.{is_busy}
use Rattle.otel_batch.specs.WorkedOff.{GoesBy, error_next, next_of_worker, own_error}
use Rattle.otel_processors.proofs.LoneProducerLemmas.{IsAlone, next_alone}
use Rattle.otel_processors.proofs.RequestKindLemmas.{finishing_why, next_none, of_worker, requests_in, shutting}
use Rattle.otel_processors.proofs.Worker.{has_next, next_permitted}

-- the drain that the worker is in has this error so far, and so has the answer of the producer, if it has one
pub record TellsError (error : Option OTelSdkError) (s : Counts) : Type 0 where
  pub result : is_busy s.control.worker ≡ true → IsErrorOf s.control.result error
  pub answered : (answer : Result (Unit {0}) OTelSdkError) → slot_at s 0 ≡ Some (slot.Answered answer) →
      IsErrorOf answer error

-- a producer without an answer has none while the slots stay
module _ (s t : Counts) (unanswered : is_answered (slot_at s 0) ≡ false) (same : t.control.slots ≡ s.control.slots) where
  tells_on : (error : Option OTelSdkError) → IsErrorOf t.control.result error → TellsError error t
  tells_on error is = record {
    result = λ h. is;
    answered = λ answer has. absurd (let yes : is_answered (slot_at s 0) ≡ true = rw (← same, has) refl in cc);
  }

  tells_rest : (error : Option OTelSdkError) → is_busy t.control.worker ≡ false → TellsError error t
  tells_rest error rests = record {
    result = λ h. absurd (cc);
    answered = λ answer has. absurd (let yes : is_answered (slot_at s 0) ≡ true = rw (← same, has) refl in cc);
  }

take_tells : (error : Option OTelSdkError) (s : Counts) (o : Outcome) (t : Counts) → is_answered (slot_at s 0) ≡ false →
    TellsError error s → TakeRow s o t → TellsError (error_next error o) t
take_tells error s outcome.Nothing t n h row = rw row.2 h
take_tells error s outcome.NotEnabled t n h row = rw row.1 h
take_tells error s outcome.TookExport t n h row =
    tells_rest s t n (ap (λ c. c.control.slots) row.2) error (rw row.2 refl)
take_tells error s (outcome.TookFlush p) t n h row =
    tells_rest s t n (ap (λ c. c.control.slots) row.2) error (rw row.2 refl)
take_tells error s (outcome.TookShutdown p) t n h row =
    tells_rest s t n (ap (λ c. c.control.slots) row.2) error (rw row.2 refl)
take_tells error s outcome.TookResource t n h row =
    tells_rest s t n (ap (λ c. c.control.slots) row.2) error (rw row.2 refl)
take_tells error s _ t n h row = absurd row

clear_tells : (error : Option OTelSdkError) (s : Counts) (o : Outcome) (t : Counts) → is_answered (slot_at s 0) ≡ false →
    TellsError error s → ClearRow s o t → TellsError (error_next error o) t
clear_tells error s outcome.Cleared t n h row =
    tells_rest s t n (ap (λ c. c.control.slots) row.1) error (rw row.1 refl)
clear_tells error s outcome.NotEnabled t n h row = rw row.1 h
clear_tells error s _ t n h row = absurd row

load_tells : (error : Option OTelSdkError) (s : Counts) (o : Outcome) (t : Counts) → is_answered (slot_at s 0) ≡ false →
    TellsError error s → LoadRow s o t → TellsError (error_next error o) t
load_tells error s (outcome.Loaded k) t n h row =
    let result = ap (λ c. c.control.result) row.3 in
    tells_on s t n (ap (λ c. c.control.slots) row.3) None (rw result tt)
load_tells error s outcome.NotEnabled t n h row = rw row.1 h
load_tells error s _ t n h row = absurd row

pull_tells : (error : Option OTelSdkError) (s : Counts) (o : Outcome) (t : Counts) → is_answered (slot_at s 0) ≡ false →
    TellsError error s → PullRow s o t → TellsError (error_next error o) t
pull_tells error s outcome.Empty t n h row =
    let result : t.control.result ≡ s.control.result = ap (λ c. c.control.result) row.2 in
    tells_on s t n (ap (λ c. c.control.slots) row.2) error (rw result (h.result (rw row.0 refl)))
pull_tells error s outcome.NoMemory t n h row =
    let result = ap (λ c. c.control.result) row.3 in
    tells_on s t n (ap (λ c. c.control.slots) row.3) (error_next error outcome.NoMemory)
    (rw result (kept_error s.control.result _ error (Some OutOfMemory) (h.result (rw row.0 refl))
    (refusal_kept s.control.result)))
pull_tells error s outcome.Pulled t n h row =
    let result : t.control.result ≡ s.control.result = ap (λ c. c.control.result) row.2 in
    tells_on s t n (ap (λ c. c.control.slots) row.2) error (rw result (h.result (rw row.0 refl)))
pull_tells error s outcome.NotEnabled t n h row = rw row.1 h
pull_tells error s _ t n h row = absurd row

hand_over_tells : (error : Option OTelSdkError) (s : Counts) (o : Outcome) (t : Counts) →
    is_answered (slot_at s 0) ≡ false → TellsError error s → HandOverRow s o t → TellsError (error_next error o) t
hand_over_tells error s (outcome.HandedOver k e) t n h row =
    tells_on s t n (ap (λ c. c.control.slots) row.3) (error_next error (outcome.HandedOver k e))
    (kept_error s.control.result t.control.result error e (h.result (rw row.0 refl)) row.2)
hand_over_tells error s outcome.NotEnabled t n h row = rw row.1 h
hand_over_tells error s _ t n h row = absurd row

subtract_tells : (error : Option OTelSdkError) (s : Counts) (o : Outcome) (t : Counts) →
    is_answered (slot_at s 0) ≡ false → TellsError error s → SubtractRow s o t → TellsError (error_next error o) t
subtract_tells error s outcome.Subtracted t n h row =
    let result : t.control.result ≡ s.control.result = ap (λ c. c.control.result) row.2 in
    tells_on s t n (ap (λ c. c.control.slots) row.2) error (rw result (h.result (rw row.1 refl)))
subtract_tells error s outcome.NotEnabled t n h row = rw row.1 h
subtract_tells error s _ t n h row = absurd row

-- an answer was put into a slot, after which the worker is at rest
answers_tell : (error : Option OTelSdkError) (s t : Counts) (p : ℕ) (answer : Result (Unit {0}) OTelSdkError) →
    length s.control.slots ≡ 1 → is_answered (slot_at s 0) ≡ false →
    t ≡ put_slot (end_of_drain s worker.Ready) p (slot.Answered answer) → IsErrorOf answer error → TellsError error t
answers_tell error s t p answer one n is says =
    let slots : t.control.slots ≡ slice_set s.control.slots p (slot.Answered answer) = ap (λ c. c.control.slots) is in
    let ready : t.control.worker ≡ worker.Ready = ap (λ c. c.control.worker) is in
    record {
      result = λ h. absurd (let no : is_busy t.control.worker ≡ false = rw ready refl in cc);
      answered = λ given has. elim (eqb_tells 0 p) [
        | inl own ↦
            let at : slice_get (slice_set s.control.slots p (slot.Answered answer)) 0 ≡ Some (slot.Answered answer) =
            rw (← own.1) (slice_get-set_same s.control.slots 0 (slot.Answered answer) (omega (arith, one))) in
            let both : Some (slot.Answered given) ≡ Some (slot.Answered answer) =
            sym has ∙ (ap (λ l. slice_get l 0) slots ∙ at) in
            let same : given ≡ answer = cc in
            rw same says
        | inr other ↦
            let at : slice_get (slice_set s.control.slots p (slot.Answered answer)) 0 ≡ slice_get s.control.slots 0 =
            slice_get-set_other s.control.slots p 0 (slot.Answered answer) other.1 in
            let before : slot_at s 0 ≡ Some (slot.Answered given) =
            sym at ∙ (sym (ap (λ l. slice_get l 0) slots) ∙ has) in
            absurd (let yes : is_answered (slot_at s 0) ≡ true = rw before refl in cc)
      ];
    }

finish_tells_for : (y : Why) (error : Option OTelSdkError) (s : Counts) (e : Option OTelSdkError) (t : Counts) →
    length s.control.slots ≡ 1 → is_answered (slot_at s 0) ≡ false → IsErrorOf s.control.result error →
    shutting.of_why y ≡ 0 → FinishRowFor y s e t → TellsError error t
finish_tells_for why.Asked error s e t one n says none row =
    tells_rest s t n (ap (λ c. c.control.slots) row.1) error (rw row.1 refl)
finish_tells_for why.Timer error s e t one n says none row =
    tells_rest s t n (ap (λ c. c.control.slots) row.1) error (rw row.1 refl)
finish_tells_for (why.Flush p) error s e t one n says none row =
    answers_tell error s t p s.control.result one n row.1 says
finish_tells_for (why.Shutdown p) error s e t one n says none row = absurd (omega (arith, none))

finish_tells : (error : Option OTelSdkError) (s : Counts) (o : Outcome) (t : Counts) → length s.control.slots ≡ 1 →
    is_answered (slot_at s 0) ≡ false → requests_in shutting s ≡ 0 → TellsError error s → FinishRow s o t →
    TellsError (error_next error o) t
finish_tells error s (outcome.Finished e) t one n none h row =
    finish_tells_for s.control.why error s e t one n (h.result (rw row.0 refl)) (finishing_why shutting s none row.0)
    row.1
finish_tells error s outcome.NotEnabled t one n none h row = rw row.1 h
finish_tells error s _ t one n none h row = absurd row

-- the worker's next step
next_tells : (w : Worker) (error : Option OTelSdkError) (s : Counts) (o : Outcome) (t : Counts) →
    s.control.worker ≡ w → length s.control.slots ≡ 1 → is_answered (slot_at s 0) ≡ false →
    requests_in shutting s ≡ 0 →
    TellsError error s → IsPermitted s (next_step w) o t → TellsError (error_next error o) t
next_tells worker.Ready error s o t is one n none h row = take_tells error s o t n h row
next_tells worker.Clearing error s o t is one n none h row = clear_tells error s o t n h row
next_tells (worker.Loading y) error s o t is one n none h row = load_tells error s o t n h row
next_tells worker.Pulling error s o t is one n none h row = pull_tells error s o t n h row
next_tells worker.Handing error s o t is one n none h row = hand_over_tells error s o t n h row
next_tells (worker.Subtracting k) error s o t is one n none h row = subtract_tells error s o t n h row
next_tells worker.Finishing error s o t is one n none h row = finish_tells error s o t one n none h row
next_tells (worker.Closing p) error s o t is one n none h row =
    absurd (let shuts : of_worker shutting s.control.why s.control.worker ≡ 1 = rw is refl in omega (arith, none, shuts))
next_tells worker.Gone error s o t is one n none h row = take_tells error s o t n h row

module _ {E : Type 0} (calls : Ghosts E) where
  -- so it is all along the worker's run
  pub goes_tells : (error : Option OTelSdkError) (s : Machine E) (xs : List Step) (os : List Outcome) (t : Machine E) →
      IsSound (counts s) → IsAlone (counts s) → requests_in shutting (counts s) ≡ 0 → TellsError error (counts s) →
      GoesBy calls next_of_worker s xs os t → TellsError (own_error error os) (counts t)
  goes_tells error s [] [] t sound a none h goes = rw goes h
  goes_tells error s (x ∷ xs) (o ∷ os) t sound a none h goes =
      let has = has_next s.control x goes.0 in
      let row = next_permitted calls s x o goes.1 has goes.2 in
      let stays = next_none shutting s.control.worker (counts s) o (counts goes.1) refl none row in
      let next = next_tells s.control.worker error (counts s) o (counts goes.1) refl a.one has.unanswered none h row in
      let alone = next_alone s.control.worker (counts s) o (counts goes.1) sound a has.unanswered row in
      goes_tells (error_next error o) goes.1 xs os t goes.2.sound alone stays.none next goes.3
  goes_tells error s [] (o ∷ os) t sound a none h goes = absurd goes
  goes_tells error s (x ∷ xs) [] t sound a none h goes = absurd goes
