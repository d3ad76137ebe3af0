-- A worker whose only producer takes no step hands over all that waits, or finds no memory.
use Rattle.std.proofs.Common.{◌≡◌, ◌∙◌, inl, inr, refl, ap, sym, ℕ, ◌+◌, ◌||◌, Bool, true, false, List, [], ◌∷◌, Option, Some, Result, Ok, Err, OnOk, is_ok, length, slice_get, slice_set, nat_lt, if◌then◌else◌, arith}
use Rattle.std.proofs.lemmas.Bool.Decides.{eqb_tells}
use Rattle.std.proofs.Math.ListN.{length-set}
use Rattle.circular_buffer.proofs.Places.{slice_get-set_same, slice_get-set_other}
use Rattle.otel_export.specs.declared.error.OTelSdkError.{OTelSdkError}
use Rattle.otel_export.specs.declared.error.OTelSdkError.TheVariants.{OutOfMemory}
use Rattle.otel_batch.specs.Slots.{is_answered}
use Rattle.otel_batch.specs.Workers.{is_ready, is_gone, is_draining, is_finishing, is_closing, worker_counts}
use Rattle.otel_batch.specs.MachineState.{Machine, Counts, counts, limit_of, put_slot, slot_at}
use Rattle.otel_batch.specs.SoundMachine.{IsSound}
use Rattle.otel_batch.specs.DrainResult.{first_failure}
use Rattle.otel_batch.specs.WorkerSteps.{TakeRow, ClearRow, LoadRow, PullRow, HandOverRow, SubtractRow}
use Rattle.otel_batch.specs.DrainEnds.{FinishRow, FinishRowFor, CloseRow, end_of_drain}
use Rattle.otel_batch.specs.PermittedStep.{IsPermitted}
use Rattle.otel_batch.specs.GoingOn.{next_step}
use Rattle.otel_batch.specs.declared.machine.state.Slot.TheVariants as slot
use Rattle.otel_batch.specs.declared.machine.state.Worker.{Worker}
use Rattle.otel_batch.specs.declared.machine.state.Worker.TheVariants as worker
use Rattle.otel_batch.specs.declared.machine.state.Why.{Why}
use Rattle.otel_batch.specs.declared.machine.state.Why.TheVariants as why
use Rattle.otel_batch.specs.declared.machine.step.Outcome.{Outcome}
use Rattle.otel_batch.specs.declared.machine.step.Outcome.TheVariants as outcome
use Rattle.otel_batch.specs.declared.machine.step.Step.{Step}
use Rattle.otel_export.specs.declared.trace.export.SpanExporter.{Ghosts}
use Rattle.otel_batch.proofs.NumberLemmas.{ltb_tells}
use Rattle.otel_batch.specs.WorkedOff.{GoesBy, next_of_worker}
use Rattle.otel_processors.proofs.Worker.{has_next, next_permitted}

-- after a drain nothing waits, or it found no memory and its result is an error
abbrev pub EndsDrain : Bool → Counts → Type 0
EndsDrain true s = is_ok s.control.result ≡ false
EndsDrain false s = s.waiting ≡ 0

-- the producer has an answer: the worker is at rest, and where the answer is Ok or the worker gone nothing waits
pub record IsDone (answer : Result (Unit {0}) OTelSdkError) (s : Counts) : Type 0 where
  pub rests : is_ready s.control.worker || is_gone s.control.worker ≡ true
  pub empty : OnOk answer (s.waiting ≡ 0)
  pub gone : is_gone s.control.worker ≡ true → s.waiting ≡ 0

-- how a queue stands whose only producer takes no step
pub record IsAlone (s : Counts) : Type 0 where
  pub one : length s.control.slots ≡ 1
  -- what is handed over and what is left to account for are the target
  pub draining : is_draining s.control.worker ≡ true →
      (s.control.refused ≡ false) × (s.control.done + s.control.counter ≡ s.control.target)
  pub finishing : is_finishing s.control.worker ≡ true → EndsDrain s.control.refused s
  pub closing : is_closing s.control.worker ≡ true → s.waiting ≡ 0
  pub answered : (answer : Result (Unit {0}) OTelSdkError) → slot_at s 0 ≡ Some (slot.Answered answer) → IsDone answer s

-- the worker is at none of the places of a drain after its load
abbrev pub is_free : Worker → Bool
is_free worker.Ready = true
is_free worker.Clearing = true
is_free (worker.Loading y) = true
is_free worker.Gone = true
is_free _ = false

pub record IsFree (w : Worker) : Type 0 where
  pub draining : is_draining w ≡ false
  pub finishing : is_finishing w ≡ false
  pub closing : is_closing w ≡ false

pub free_is : (w : Worker) → is_free w ≡ true → IsFree w
free_is worker.Ready h = record { draining = refl; finishing = refl; closing = refl }
free_is worker.Clearing h = record { draining = refl; finishing = refl; closing = refl }
free_is (worker.Loading y) h = record { draining = refl; finishing = refl; closing = refl }
free_is worker.Gone h = record { draining = refl; finishing = refl; closing = refl }
free_is worker.Pulling h = absurd (cc)
free_is worker.Handing h = absurd (cc)
free_is (worker.Subtracting k) h = absurd (cc)
free_is worker.Finishing h = absurd (cc)
free_is (worker.Closing p) h = absurd (cc)

differs : {A : Type 0} (a b : Bool) → a ≡ false → a ≡ true → A
differs a b f t = absurd (cc)

-- a producer without an answer has none while the slots stay
module _ (s t : Counts) (alone : IsAlone s) (unanswered : is_answered (slot_at s 0) ≡ false)
    (same : t.control.slots ≡ s.control.slots) where
  still : (answer : Result (Unit {0}) OTelSdkError) → slot_at t 0 ≡ Some (slot.Answered answer) → IsDone answer t
  still answer has = absurd (let yes : is_answered (slot_at s 0) ≡ true = rw (← same, has) refl in cc)

  pub alone_free : is_free t.control.worker ≡ true → IsAlone t
  alone_free free =
      let is = free_is t.control.worker free in
      record {
        one = ap length same ∙ alone.one;
        draining = λ h. absurd (let no = is.draining in cc);
        finishing = λ h. absurd (let no = is.finishing in cc);
        closing = λ h. absurd (let no = is.closing in cc);
        answered = still;
      }

  pub alone_draining : is_finishing t.control.worker ≡ false → is_closing t.control.worker ≡ false →
      (t.control.refused ≡ false) × (t.control.done + t.control.counter ≡ t.control.target) → IsAlone t
  alone_draining finishes closes drains = record {
    one = ap length same ∙ alone.one;
    draining = λ h. drains;
    finishing = λ h. absurd (cc);
    closing = λ h. absurd (cc);
    answered = still;
  }

  pub alone_finishing : t.control.worker ≡ worker.Finishing → EndsDrain t.control.refused t → IsAlone t
  alone_finishing is ends = record {
    one = ap length same ∙ alone.one;
    draining = λ h. absurd (let no : is_draining t.control.worker ≡ false = rw is refl in cc);
    finishing = λ h. ends;
    closing = λ h. absurd (let no : is_closing t.control.worker ≡ false = rw is refl in cc);
    answered = still;
  }

  pub alone_closing : (p : ℕ) → t.control.worker ≡ worker.Closing p → t.waiting ≡ 0 → IsAlone t
  alone_closing p is none = record {
    one = ap length same ∙ alone.one;
    draining = λ h. absurd (let no : is_draining t.control.worker ≡ false = rw is refl in cc);
    finishing = λ h. absurd (let no : is_finishing t.control.worker ≡ false = rw is refl in cc);
    closing = λ h. none;
    answered = still;
  }

ends_empty : (b : Bool) (s : Counts) → b ≡ false → s.waiting ≡ 0 → EndsDrain b s
ends_empty true s f none = absurd (cc)
ends_empty false s f none = none

take_alone : (s : Counts) (o : Outcome) (t : Counts) → IsAlone s → is_answered (slot_at s 0) ≡ false →
    TakeRow s o t → IsAlone t
take_alone s outcome.Nothing t a n row = rw row.2 a
take_alone s outcome.NotEnabled t a n row = rw row.1 a
take_alone s outcome.TookExport t a n row = alone_free s t a n (ap (λ c. c.control.slots) row.2) (rw row.2 refl)
take_alone s (outcome.TookFlush p) t a n row = alone_free s t a n (ap (λ c. c.control.slots) row.2) (rw row.2 refl)
take_alone s (outcome.TookShutdown p) t a n row = alone_free s t a n (ap (λ c. c.control.slots) row.2) (rw row.2 refl)
take_alone s outcome.TookResource t a n row = alone_free s t a n (ap (λ c. c.control.slots) row.2) (rw row.2 refl)
take_alone s _ t a n row = absurd row

clear_alone : (s : Counts) (o : Outcome) (t : Counts) → IsAlone s → is_answered (slot_at s 0) ≡ false →
    ClearRow s o t → IsAlone t
clear_alone s outcome.Cleared t a n row = alone_free s t a n (ap (λ c. c.control.slots) row.1) (rw row.1 refl)
clear_alone s outcome.NotEnabled t a n row = rw row.1 a
clear_alone s _ t a n row = absurd row

load_alone : (s : Counts) (o : Outcome) (t : Counts) → IsSound s → IsAlone s → is_answered (slot_at s 0) ≡ false →
    LoadRow s o t → IsAlone t
load_alone s (outcome.Loaded k) t sound a n row =
    let same : t.control.slots ≡ s.control.slots = ap (λ c. c.control.slots) row.3 in
    let total = sound.counted.total in
    let target = row.2 in
    let waiting : t.waiting ≡ s.waiting = ap (λ c. c.waiting) row.3 in
    let refused : t.control.refused ≡ false = ap (λ c. c.control.refused) row.3 in
    elim (eqb_tells k 0) [
      | inl none ↦
          let nothing = none.1 in
          alone_finishing s t a n same (rw (row.3, none.0) refl)
          (ends_empty t.control.refused t refused (omega (arith, total, target, nothing, waiting)))
      | inr some ↦
          let is : t.control.worker ≡ worker.Pulling = rw (row.3, some.0) refl in
          alone_draining s t a n same (rw is refl) (rw is refl) (refused, rw row.3 (omega (arith, target)))
    ]
load_alone s outcome.NotEnabled t sound a n row = rw row.1 a
load_alone s _ t sound a n row = absurd row

pull_alone : (s : Counts) (o : Outcome) (t : Counts) → IsAlone s → is_answered (slot_at s 0) ≡ false →
    PullRow s o t → IsAlone t
pull_alone s outcome.Empty t a n row =
    let same : t.control.slots ≡ s.control.slots = ap (λ c. c.control.slots) row.2 in
    let drains = a.draining (rw row.0 refl) in
    let waiting : t.waiting ≡ s.waiting = ap (λ c. c.waiting) row.2 in
    let refused : t.control.refused ≡ s.control.refused = ap (λ c. c.control.refused) row.2 in
    elim (eqb_tells s.hand 0) [
      | inl none ↦ alone_finishing s t a n same (rw (row.2, none.0) refl)
          (ends_empty t.control.refused t (refused ∙ drains.0) (waiting ∙ row.1))
      | inr some ↦
          let is : t.control.worker ≡ worker.Handing = rw (row.2, some.0) refl in
          alone_draining s t a n same (rw is refl) (rw is refl) (refused ∙ drains.0, rw row.2 drains.1)
    ]
pull_alone s outcome.NoMemory t a n row =
    alone_finishing s t a n (ap (λ c. c.control.slots) row.3) (rw row.3 refl)
    (rw row.3 (still_failed s.control.result))
  where
    still_failed : (r : Result (Unit {0}) OTelSdkError) → is_ok (first_failure r (Err OutOfMemory)) ≡ false
    still_failed (Ok u) = refl
    still_failed (Err e) = refl
pull_alone s outcome.Pulled t a n row =
    let same : t.control.slots ≡ s.control.slots = ap (λ c. c.control.slots) row.2 in
    let drains = a.draining (rw row.0 refl) in
    let to = ap (λ c. c.control.worker) row.2 in
    let kept : (t.control.refused ≡ false) × (t.control.done + t.control.counter ≡ t.control.target) =
    (ap (λ c. c.control.refused) row.2 ∙ drains.0, drained row.2 drains.1) in
    alone_draining s t a n same (rw to (fills (nat_lt (s.hand + 1) (limit_of s.control))).0)
    (rw to (fills (nat_lt (s.hand + 1) (limit_of s.control))).1) kept
  where
    fills : (b : Bool) → (is_finishing (if b then worker.Pulling else worker.Handing) ≡ false)
        × (is_closing (if b then worker.Pulling else worker.Handing) ≡ false)
    fills true = (refl, refl)
    fills false = (refl, refl)

    drained : {next : Counts} → t ≡ next → next.control.done + next.control.counter ≡ next.control.target →
        t.control.done + t.control.counter ≡ t.control.target
    drained e h = rw e h
pull_alone s outcome.NotEnabled t a n row = rw row.1 a
pull_alone s _ t a n row = absurd row

hand_over_alone : (s : Counts) (o : Outcome) (t : Counts) → IsAlone s → is_answered (slot_at s 0) ≡ false →
    HandOverRow s o t → IsAlone t
hand_over_alone s (outcome.HandedOver k e) t a n row =
    let same : t.control.slots ≡ s.control.slots = ap (λ c. c.control.slots) row.3 in
    let drains = a.draining (rw row.0 refl) in
    let is : t.control.worker ≡ worker.Subtracting k = ap (λ c. c.control.worker) row.3 in
    let refused : t.control.refused ≡ s.control.refused = ap (λ c. c.control.refused) row.3 in
    let done : t.control.done ≡ s.control.done = ap (λ c. c.control.done) row.3 in
    let counter : t.control.counter ≡ s.control.counter = ap (λ c. c.control.counter) row.3 in
    let target : t.control.target ≡ s.control.target = ap (λ c. c.control.target) row.3 in
    alone_draining s t a n same (rw is refl) (rw is refl)
    (refused ∙ drains.0, rw (done, counter, target) drains.1)
hand_over_alone s outcome.NotEnabled t a n row = rw row.1 a
hand_over_alone s _ t a n row = absurd row

subtract_alone : (s : Counts) (o : Outcome) (t : Counts) → IsSound s → IsAlone s →
    is_answered (slot_at s 0) ≡ false → SubtractRow s o t → IsAlone t
subtract_alone s outcome.Subtracted t sound a n row =
    let same : t.control.slots ≡ s.control.slots = ap (λ c. c.control.slots) row.2 in
    let drains = a.draining (rw row.1 refl) in
    let at : worker_counts s.control.worker ≡ row.0 = rw row.1 refl in
    let total = sound.counted.total in
    let balance = drains.1 in
    let refused : t.control.refused ≡ false = ap (λ c. c.control.refused) row.2 ∙ drains.0 in
    let waiting : t.waiting ≡ s.waiting = ap (λ c. c.waiting) row.2 in
    elim (ltb_tells (s.control.done + row.0) s.control.target) [
      | inl below ↦
          let is : t.control.worker ≡ worker.Pulling = rw (row.2, below.0) refl in
          alone_draining s t a n same (rw is refl) (rw is refl)
          (refused, rw row.2 (omega (arith, total, balance, at)))
      | inr reached ↦
          let most = reached.1 in
          alone_finishing s t a n same (rw (row.2, reached.0) refl)
          (ends_empty t.control.refused t refused (omega (arith, total, balance, at, most, waiting)))
    ]
subtract_alone s outcome.NotEnabled t sound a n row = rw row.1 a
subtract_alone s _ t sound a n row = absurd row

-- an answer was put into a slot, after which the worker is at rest
answers_alone : (s t : Counts) (p : ℕ) (answer : Result (Unit {0}) OTelSdkError) → IsAlone s →
    is_answered (slot_at s 0) ≡ false → t ≡ put_slot (end_of_drain s worker.Ready) p (slot.Answered answer) →
    OnOk answer (s.waiting ≡ 0) → IsAlone t
answers_alone s t p answer a n is empty =
    let slots : t.control.slots ≡ slice_set s.control.slots p (slot.Answered answer) = ap (λ c. c.control.slots) is in
    let ready : t.control.worker ≡ worker.Ready = ap (λ c. c.control.worker) is in
    let waiting : t.waiting ≡ s.waiting = ap (λ c. c.waiting) is in
    record {
      one = ap length slots ∙ (length-set s.control.slots p (slot.Answered answer) ∙ a.one);
      draining = λ h. absurd (let no : is_draining t.control.worker ≡ false = rw ready refl in cc);
      finishing = λ h. absurd (let no : is_finishing t.control.worker ≡ false = rw ready refl in cc);
      closing = λ h. absurd (let no : is_closing t.control.worker ≡ false = rw ready refl in cc);
      answered = λ given has. elim (eqb_tells 0 p) [
        | inl own ↦
            let at : slice_get (slice_set s.control.slots p (slot.Answered answer)) 0 ≡ Some (slot.Answered answer) =
            rw (← own.1) (slice_get-set_same s.control.slots 0 (slot.Answered answer) (omega (arith, a.one))) in
            let both : Some (slot.Answered given) ≡ Some (slot.Answered answer) = sym has ∙ (ap (λ l. slice_get l 0) slots ∙ at) in
            let same : given ≡ answer = cc in
            record {
              rests = rw ready refl;
              empty = rw (same, waiting) empty;
              gone = λ h. absurd (let no : is_gone t.control.worker ≡ false = rw ready refl in cc);
            }
        | inr other ↦
            let at : slice_get (slice_set s.control.slots p (slot.Answered answer)) 0 ≡ slice_get s.control.slots 0 =
            slice_get-set_other s.control.slots p 0 (slot.Answered answer) other.1 in
            let before : slot_at s 0 ≡ Some (slot.Answered given) = sym at ∙ (sym (ap (λ l. slice_get l 0) slots) ∙ has) in
            absurd (let yes : is_answered (slot_at s 0) ≡ true = rw before refl in cc)
      ];
    }

drained_ok : (b : Bool) (s : Counts) (answer : Result (Unit {0}) OTelSdkError) → s.control.result ≡ answer →
    EndsDrain b s → OnOk answer (s.waiting ≡ 0)
drained_ok false s (Ok u) e ends = ends
drained_ok false s (Err x) e ends = tt
drained_ok true s (Err x) e ends = tt
drained_ok true s (Ok u) e ends = absurd (let ok : is_ok s.control.result ≡ true = rw e refl in cc)

finish_for : (y : Why) (s : Counts) (e : Option OTelSdkError) (t : Counts) → IsAlone s →
    is_answered (slot_at s 0) ≡ false → EndsDrain s.control.refused s → FinishRowFor y s e t → IsAlone t
finish_for why.Asked s e t a n ends row = alone_free s t a n (ap (λ c. c.control.slots) row.1) (rw row.1 refl)
finish_for why.Timer s e t a n ends row = alone_free s t a n (ap (λ c. c.control.slots) row.1) (rw row.1 refl)
finish_for (why.Flush p) s e t a n ends row = answers_alone s t p s.control.result a n row.1
    (drained_ok s.control.refused s s.control.result refl ends)
finish_for (why.Shutdown p) s e t a n ends row = shut s.control.refused ends row.1
  where
    shut : (b : Bool) → EndsDrain b s → t ≡ (if b
        then put_slot (end_of_drain s worker.Ready) p (slot.Answered (Err OutOfMemory))
        else end_of_drain s (worker.Closing p)) → IsAlone t
    shut true ended eq = answers_alone s t p (Err OutOfMemory) a n eq tt
    shut false ended eq = alone_closing s t a n (ap (λ c. c.control.slots) eq) p (ap (λ c. c.control.worker) eq)
        (ap (λ c. c.waiting) eq ∙ ended)

finish_alone : (s : Counts) (o : Outcome) (t : Counts) → IsAlone s → is_answered (slot_at s 0) ≡ false →
    FinishRow s o t → IsAlone t
finish_alone s (outcome.Finished e) t a n row =
    finish_for s.control.why s e t a n (a.finishing (rw row.0 refl)) row.1
finish_alone s outcome.NotEnabled t a n row = rw row.1 a
finish_alone s _ t a n row = absurd row

all_ok : (answer : Result (Unit {0}) OTelSdkError) (n : ℕ) → n ≡ 0 → OnOk answer (n ≡ 0)
all_ok (Ok u) n e = e
all_ok (Err x) n e = tt

close_alone : (s : Counts) (o : Outcome) (t : Counts) → IsAlone s → CloseRow s o t → IsAlone t
close_alone s (outcome.ShutDown n) t a row =
    let gone : t.control.worker ≡ worker.Gone = ap (λ c. c.control.worker) row.3 in
    let none : t.waiting ≡ 0 = ap (λ c. c.waiting) row.3 ∙ a.closing row.0 in
    record {
      one = row.2 ∙ a.one;
      draining = λ h. absurd (let no : is_draining t.control.worker ≡ false = rw gone refl in cc);
      finishing = λ h. absurd (let no : is_finishing t.control.worker ≡ false = rw gone refl in cc);
      closing = λ h. absurd (let no : is_closing t.control.worker ≡ false = rw gone refl in cc);
      answered = λ answer has. record { rests = rw gone refl; empty = all_ok answer t.waiting none; gone = λ _. none };
    }
close_alone s outcome.NotEnabled t a row = rw row.1 a
close_alone s _ t a row = absurd row

-- the worker's next step
pub next_alone : (w : Worker) (s : Counts) (o : Outcome) (t : Counts) → IsSound s → IsAlone s →
    is_answered (slot_at s 0) ≡ false → IsPermitted s (next_step w) o t → IsAlone t
next_alone worker.Ready s o t sound a n row = take_alone s o t a n row
next_alone worker.Clearing s o t sound a n row = clear_alone s o t a n row
next_alone (worker.Loading y) s o t sound a n row = load_alone s o t sound a n row
next_alone worker.Pulling s o t sound a n row = pull_alone s o t a n row
next_alone worker.Handing s o t sound a n row = hand_over_alone s o t a n row
next_alone (worker.Subtracting k) s o t sound a n row = subtract_alone s o t sound a n row
next_alone worker.Finishing s o t sound a n row = finish_alone s o t a n row
next_alone (worker.Closing p) s o t sound a n row = close_alone s o t a row
next_alone worker.Gone s o t sound a n row = take_alone s o t a n row

module _ {E : Type 0} (calls : Ghosts E) where
  -- so it stands all along the worker's run
  pub goes_alone : (s : Machine E) (xs : List Step) (os : List Outcome) (t : Machine E) → IsSound (counts s) →
      IsAlone (counts s) → GoesBy calls next_of_worker s xs os t → IsAlone (counts t)
  goes_alone s [] [] t sound a goes = rw goes a
  goes_alone s (x ∷ xs) (o ∷ os) t sound a goes =
      let has = has_next s.control x goes.0 in
      goes_alone goes.1 xs os t goes.2.sound
      (next_alone s.control.worker (counts s) o (counts goes.1) sound a has.unanswered
      (next_permitted calls s x o goes.1 has goes.2)) goes.3
  goes_alone s [] (o ∷ os) t sound a goes = absurd goes
  goes_alone s (x ∷ xs) [] t sound a goes = absurd goes
