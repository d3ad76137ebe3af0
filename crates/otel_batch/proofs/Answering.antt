-- The answer of a drain of the batch queue is what its outcomes say.
use Rattle.std.proofs.Common.{◌≡◌, ◌∙◌, ap, sym, refl, subst, zero, suc, ℕ, ◌+◌, ◌<◌, ◌==◌, Bool, true, false, List, [], ◌∷◌, length, Option, Some, None, Result, Ok, Err, take, drop, slice_get, slice_set, nat_lt, if◌then◌else◌}
use Rattle.std.proofs.lemmas.Option.{slice_get_within}
use Rattle.circular_buffer.proofs.Places.{slice_get-set_same}
use Rattle.otel_export.specs.declared.error.OTelSdkError.{OTelSdkError}
use Rattle.otel_export.specs.declared.error.OTelSdkError.TheVariants.{AlreadyShutdown, Timeout, InternalFailure, OutOfMemory}
use Rattle.otel_batch.specs.Workers.{worker_names}
use Rattle.otel_batch.specs.MachineState.{Machine, Counts, counts, limit_of, put_slot, slot_at}
use Rattle.otel_batch.specs.SoundMachine.{IsSound}
use Rattle.otel_batch.specs.DrainResult.{IsErrorOf, KeepsFailure, first_failure}
use Rattle.otel_batch.specs.WorkerSteps.{PullRow, HandOverRow, SubtractRow}
use Rattle.otel_batch.specs.DrainEnds.{FinishRow, FinishRowFor, end_of_drain}
use Rattle.otel_batch.specs.PermittedStep.{IsPermitted}
use Rattle.otel_batch.specs.MachineRun.{Run}
use Rattle.otel_batch.specs.Drains.{NoneFinishes}
use Rattle.otel_batch.specs.DrainAnswers.{error_after, error_later, first_error, finds_no_memory, GivesAnswer, AnswersDrains}
use Rattle.otel_batch.specs.declared.machine.state.Slot.TheVariants as slot
use Rattle.otel_batch.specs.declared.machine.state.Why.{Why}
use Rattle.otel_batch.specs.declared.machine.state.Why.TheVariants as why
use Rattle.otel_batch.specs.declared.machine.state.Worker.TheVariants as worker
use Rattle.otel_batch.specs.declared.machine.step.Outcome.{Outcome}
use Rattle.otel_batch.specs.declared.machine.step.Outcome.TheVariants as outcome
use Rattle.otel_batch.specs.declared.machine.step.Step.{Step}
use Rattle.otel_batch.specs.declared.machine.step.Step.TheVariants as step
use Rattle.otel_export.specs.declared.trace.export.SpanExporter.{Ghosts}
use Rattle.otel_batch.proofs.SlotSums.{one_flush, one_shutdown}
use Rattle.otel_batch.proofs.Soundness.{awaits}
use Rattle.otel_batch.proofs.TableFacts.{is_producers, LeavesWorker, permitted-alone, slots_of}
use Rattle.otel_batch.proofs.BusyLemmas.{is_busy, take_busy, tick_busy, clear_busy, load_busy, close_busy}
use Rattle.otel_batch.proofs.Draining.{at_load}
use Rattle.otel_batch.proofs.Bounding.{none-first}

-- whether a drain found no memory, after one more outcome
abbrev refused_after : Bool → Outcome → Bool
refused_after before outcome.NoMemory = true
refused_after before _ = before

abbrev refused_later : Bool → List Outcome → Bool
refused_later before [] = before
refused_later before (o ∷ os) = refused_later (refused_after before o) os

stays_refused : (os : List Outcome) → refused_later true os ≡ true
stays_refused [] = refl
stays_refused (outcome.NoMemory ∷ os) = stays_refused os
stays_refused (_ ∷ os) = stays_refused os

refused-finds : (os : List Outcome) → refused_later false os ≡ finds_no_memory os
refused-finds [] = refl
refused-finds (outcome.NoMemory ∷ os) = stays_refused os
refused-finds (_ ∷ os) = refused-finds os

-- the error of an error is one
error_has : (e : OTelSdkError) → IsErrorOf (Err e) None → ⊥
error_has AlreadyShutdown is = is
error_has (Timeout d) is = is
error_has (InternalFailure reason) is = is
error_has OutOfMemory is = is

-- a result that keeps the first error has the first of the errors
pub kept_error : (before after : Result (Unit {0}) OTelSdkError) (error more : Option OTelSdkError) → IsErrorOf before error →
    KeepsFailure before more after → IsErrorOf after (first_error error more)
kept_error (Ok u) after None more is keeps = rw keeps.kept keeps.says
kept_error (Ok u) after (Some e) more is keeps = absurd is
kept_error (Err e) after (Some f) more is keeps = rw keeps.kept is
kept_error (Err e) after None more is keeps = absurd (error_has e is)

pub refusal_kept : (before : Result (Unit {0}) OTelSdkError) →
    KeepsFailure before (Some OutOfMemory) (first_failure before (Err OutOfMemory))
refusal_kept before = record { answer = Err OutOfMemory; says = tt; kept = refl }

-- a drain with this reason and this error between its load and its finish, which found no memory or did
record HoldsAnswer (reason : Why) (error : Option OTelSdkError) (refused : Bool) (s : Counts) : Type 0 where
  busy : is_busy s.control.worker ≡ true
  why_is : s.control.why ≡ reason
  result_is : IsErrorOf s.control.result error
  refused_is : s.control.refused ≡ refused

-- the answer stays
holds_same : (reason : Why) (error : Option OTelSdkError) (refused : Bool) (o : Outcome) (s t : Counts) →
    error_after error o ≡ error → refused_after refused o ≡ refused → is_busy t.control.worker ≡ true →
    t.control.why ≡ s.control.why → t.control.result ≡ s.control.result → t.control.refused ≡ s.control.refused →
    HoldsAnswer reason error refused s → HoldsAnswer reason (error_after error o) (refused_after refused o) t
holds_same reason error refused o s t same still busy why result refusal h = record {
  busy = busy;
  why_is = why ∙ h.why_is;
  result_is = rw (same, result) h.result_is;
  refused_is = refusal ∙ h.refused_is ∙ sym still;
}

producers-error : (o : Outcome) (error : Option OTelSdkError) → is_producers o ≡ true → error_after error o ≡ error
producers-error (outcome.HandedOver k e) error is = cc
producers-error outcome.NoMemory error is = cc
producers-error _ error is = refl

producers-refused : (o : Outcome) (refused : Bool) → is_producers o ≡ true → refused_after refused o ≡ refused
producers-refused outcome.NoMemory refused is = cc
producers-refused _ refused is = refl

holds_alone : (reason : Why) (error : Option OTelSdkError) (refused : Bool) (o : Outcome) (s t : Counts) →
    LeavesWorker o s t → HoldsAnswer reason error refused s →
    HoldsAnswer reason (error_after error o) (refused_after refused o) t
holds_alone reason error refused o s t a h = holds_same reason error refused o s t
    (producers-error o error a.producers) (producers-refused o refused a.producers)
    (ap is_busy a.worker ∙ h.busy) a.why a.result a.refused h

holds_rests : (reason : Why) (error : Option OTelSdkError) (refused : Bool) (o : Outcome) (s t : Counts) →
    (o ≡ outcome.NotEnabled) × (t ≡ s) → HoldsAnswer reason error refused s →
    HoldsAnswer reason (error_after error o) (refused_after refused o) t
holds_rests reason error refused o s t (e, same) h = rw (e, same) h

pull_holds : (reason : Why) (error : Option OTelSdkError) (refused : Bool) (s : Counts) (o : Outcome) (t : Counts) →
    PullRow s o t → HoldsAnswer reason error refused s →
    HoldsAnswer reason (error_after error o) (refused_after refused o) t
pull_holds reason error refused s outcome.Empty t row h = holds_same reason error refused outcome.Empty s t refl refl
    (ap (λ c. is_busy c.control.worker) row.2 ∙ on (s.hand == 0)) (ap (λ c. c.control.why) row.2)
    (ap (λ c. c.control.result) row.2) (ap (λ c. c.control.refused) row.2) h
  where
    on : (b : Bool) → is_busy (if b then worker.Finishing else worker.Handing) ≡ true
    on true = refl
    on false = refl
pull_holds reason error refused s outcome.NoMemory t row h =
    let result : t.control.result ≡ first_failure s.control.result (Err OutOfMemory) = ap (λ c. c.control.result) row.3 in
    record {
      busy = ap (λ c. is_busy c.control.worker) row.3;
      why_is = ap (λ c. c.control.why) row.3 ∙ h.why_is;
      result_is = rw result (kept_error s.control.result _ error (Some OutOfMemory) h.result_is
          (refusal_kept s.control.result));
      refused_is = ap (λ c. c.control.refused) row.3;
    }
pull_holds reason error refused s outcome.Pulled t row h = holds_same reason error refused outcome.Pulled s t refl refl
    (ap (λ c. is_busy c.control.worker) row.2 ∙ on (nat_lt (s.hand + 1) (limit_of s.control)))
    (ap (λ c. c.control.why) row.2) (ap (λ c. c.control.result) row.2) (ap (λ c. c.control.refused) row.2) h
  where
    on : (b : Bool) → is_busy (if b then worker.Pulling else worker.Handing) ≡ true
    on true = refl
    on false = refl
pull_holds reason error refused s outcome.NotEnabled t row h =
    holds_rests reason error refused outcome.NotEnabled s t (refl, row.1) h
pull_holds reason error refused s _ t row h = absurd row

hand_over_holds : (reason : Why) (error : Option OTelSdkError) (refused : Bool) (s : Counts) (o : Outcome)
    (t : Counts) → HandOverRow s o t → HoldsAnswer reason error refused s →
    HoldsAnswer reason (error_after error o) (refused_after refused o) t
hand_over_holds reason error refused s (outcome.HandedOver k e) t row h = record {
  busy = ap (λ c. is_busy c.control.worker) row.3;
  why_is = ap (λ c. c.control.why) row.3 ∙ h.why_is;
  result_is = kept_error s.control.result t.control.result error e h.result_is row.2;
  refused_is = ap (λ c. c.control.refused) row.3 ∙ h.refused_is;
}
hand_over_holds reason error refused s outcome.NotEnabled t row h =
    holds_rests reason error refused outcome.NotEnabled s t (refl, row.1) h
hand_over_holds reason error refused s _ t row h = absurd row

subtract_holds : (reason : Why) (error : Option OTelSdkError) (refused : Bool) (s : Counts) (o : Outcome)
    (t : Counts) → SubtractRow s o t → HoldsAnswer reason error refused s →
    HoldsAnswer reason (error_after error o) (refused_after refused o) t
subtract_holds reason error refused s outcome.Subtracted t row h =
    holds_same reason error refused outcome.Subtracted s t refl refl
    (ap (λ c. is_busy c.control.worker) row.2 ∙ on (nat_lt (s.control.done + row.0) s.control.target))
    (ap (λ c. c.control.why) row.2) (ap (λ c. c.control.result) row.2) (ap (λ c. c.control.refused) row.2) h
  where
    on : (b : Bool) → is_busy (if b then worker.Pulling else worker.Finishing) ≡ true
    on true = refl
    on false = refl
subtract_holds reason error refused s outcome.NotEnabled t row h =
    holds_rests reason error refused outcome.NotEnabled s t (refl, row.1) h
subtract_holds reason error refused s _ t row h = absurd row

finish_holds : (reason : Why) (error : Option OTelSdkError) (refused : Bool) (s : Counts) (o : Outcome)
    (t : Counts) → FinishRow s o t → NoneFinishes (o ∷ []) → HoldsAnswer reason error refused s →
    HoldsAnswer reason (error_after error o) (refused_after refused o) t
finish_holds reason error refused s (outcome.Finished e) t row on h = absurd on
finish_holds reason error refused s outcome.NotEnabled t row on h =
    holds_rests reason error refused outcome.NotEnabled s t (refl, row.1) h
finish_holds reason error refused s _ t row on h = absurd row

-- one step of a drain
step_holds : (reason : Why) (error : Option OTelSdkError) (refused : Bool) (s : Counts) (x : Step) (o : Outcome)
    (t : Counts) → IsPermitted s x o t → NoneFinishes (o ∷ []) → HoldsAnswer reason error refused s →
    HoldsAnswer reason (error_after error o) (refused_after refused o) t
step_holds reason error refused s (step.Offer p span) o t row on h =
    holds_alone reason error refused o s t (permitted-alone s (step.Offer p span) o t refl row) h
step_holds reason error refused s (step.Send p) o t row on h =
    holds_alone reason error refused o s t (permitted-alone s (step.Send p) o t refl row) h
step_holds reason error refused s (step.Undo p) o t row on h =
    holds_alone reason error refused o s t (permitted-alone s (step.Undo p) o t refl row) h
step_holds reason error refused s (step.Ask p) o t row on h =
    holds_alone reason error refused o s t (permitted-alone s (step.Ask p) o t refl row) h
step_holds reason error refused s (step.Post p) o t row on h =
    holds_alone reason error refused o s t (permitted-alone s (step.Post p) o t refl row) h
step_holds reason error refused s (step.Reset p) o t row on h =
    holds_alone reason error refused o s t (permitted-alone s (step.Reset p) o t refl row) h
step_holds reason error refused s (step.RequestFlush p) o t row on h =
    holds_alone reason error refused o s t (permitted-alone s (step.RequestFlush p) o t refl row) h
step_holds reason error refused s (step.RequestShutdown p) o t row on h =
    holds_alone reason error refused o s t (permitted-alone s (step.RequestShutdown p) o t refl row) h
step_holds reason error refused s (step.Collect p) o t row on h =
    holds_alone reason error refused o s t (permitted-alone s (step.Collect p) o t refl row) h
step_holds reason error refused s (step.PostResource resource) o t row on h =
    holds_alone reason error refused o s t (permitted-alone s (step.PostResource resource) o t refl row) h
step_holds reason error refused s step.Take o t row on h =
    holds_rests reason error refused o s t (take_busy s o t h.busy row) h
step_holds reason error refused s step.Tick o t row on h =
    holds_rests reason error refused o s t (tick_busy s o t h.busy row) h
step_holds reason error refused s step.Clear o t row on h =
    holds_rests reason error refused o s t (clear_busy s o t h.busy row) h
step_holds reason error refused s step.Load o t row on h =
    holds_rests reason error refused o s t (load_busy s o t h.busy row) h
step_holds reason error refused s step.Close o t row on h =
    holds_rests reason error refused o s t (close_busy s o t h.busy row) h
step_holds reason error refused s step.Pull o t row on h = pull_holds reason error refused s o t row h
step_holds reason error refused s step.HandOver o t row on h = hand_over_holds reason error refused s o t row h
step_holds reason error refused s step.Subtract o t row on h = subtract_holds reason error refused s o t row h
step_holds reason error refused s step.Finish o t row on h = finish_holds reason error refused s o t row on h

-- the answer of a drain right after its load
load_holds : (s : Counts) (x : Step) (target : ℕ) (t : Counts) → IsPermitted s x (outcome.Loaded target) t →
    HoldsAnswer t.control.why None false t
load_holds s step.Load target t row =
    let result = ap (λ c. c.control.result) row.3 in
    record {
      busy = ap (λ c. is_busy c.control.worker) row.3 ∙ on (target == 0);
      why_is = refl;
      result_is = rw result tt;
      refused_is = ap (λ c. c.control.refused) row.3;
    }
  where
    on : (b : Bool) → is_busy (if b then worker.Finishing else worker.Pulling) ≡ true
    on true = refl
    on false = refl
load_holds s _ target t row = absurd row

-- only the worker's finish finishes a drain
finished-finishes : (s : Counts) (x : Step) (e : Option OTelSdkError) (t : Counts) →
    IsPermitted s x (outcome.Finished e) t → FinishRow s (outcome.Finished e) t
finished-finishes s step.Finish e t row = row
finished-finishes s _ e t row = absurd row

-- the answer of one who waits
answered_at : (s t : Counts) (p : ℕ) (answer : _) → IsSound s →
    worker_names p s.control.why s.control.worker ≡ 1 →
    t.control.slots ≡ slice_set s.control.slots p (slot.Answered answer) →
    slot_at t p ≡ Some (slot.Answered answer)
answered_at s t p answer sound own e =
    let waits = awaits s.control.closed s.control.messages s.control.why s.control.worker s.control.slots p own
    sound.awaited in
    let lt : p < length s.control.slots = slice_get_within s.control.slots p (slot.Waiting waits.0) waits.1 in
    rw e (slice_get-set_same s.control.slots p (slot.Answered answer) lt)

finished_gives : (y : Why) (refused : Bool) (s : Counts) (e : Option OTelSdkError) (t : Counts) → IsSound s →
    s.control.worker ≡ worker.Finishing → s.control.why ≡ y → s.control.refused ≡ refused → FinishRowFor y s e t →
    GivesAnswer y refused s.control.result e t
finished_gives why.Asked refused s e t sound at is refusal row = row.0
finished_gives why.Timer refused s e t sound at is refusal row = row.0
finished_gives (why.Flush p) refused s e t sound at is refusal row =
    (row.0, answered_at s t p s.control.result sound (rw (at, is) (one_flush p)) (slots_of _ _ row.1))
finished_gives (why.Shutdown p) refused s e t sound at is refusal row =
    shut s.control.refused refused refusal row.1
  where
    shut : (b c : Bool) → b ≡ c → t ≡ (if b
        then put_slot (end_of_drain s worker.Ready) p (slot.Answered (Err OutOfMemory))
        else end_of_drain s (worker.Closing p)) → GivesAnswer (why.Shutdown p) c s.control.result e t
    shut true true same eq =
        let runs : s.control.closed ≡ false = sound.awaited.gone ∙ rw at refl in (
          row.0,
          answered_at s t p (Err OutOfMemory) sound (rw (at, is) (one_shutdown p)) (slots_of _ _ eq),
          ap (λ c. c.control.worker) eq,
          ap (λ c. c.control.closed) eq ∙ runs,
        )
    shut false false same eq = (row.0, ap (λ c. c.control.worker) eq)
    shut true false same eq = absurd (cc)
    shut false true same eq = absurd (cc)

finish_gives : (reason : Why) (error : Option OTelSdkError) (refused : Bool) (s : Counts) (x : Step)
    (e : Option OTelSdkError) (t : Counts) → IsSound s → IsPermitted s x (outcome.Finished e) t →
    HoldsAnswer reason error refused s → GivesAnswer reason refused s.control.result e t
finish_gives reason error refused s x e t sound row h =
    let ends = finished-finishes s x e t row in
    let row_for : Why → Type 0 = λ y. FinishRowFor y s e t in
    finished_gives reason refused s e t sound ends.0 h.why_is h.refused_is (subst row_for h.why_is ends.1)

module _ {E : Type 0} (calls : Ghosts E) where
  -- the m steps of a run did not finish the drain that it is in, and the next did
  record EndsDrain (m : ℕ) (reason : Why) (error : Option OTelSdkError) (refused : Bool) (e : Option OTelSdkError)
      (s : Machine E) (xs : List Step) (os : List Outcome) (t : Machine E) : Type 0 where
    before : Machine E
    finish : Machine E
    drain : Run calls s (take m xs) (take m os) before
    ends : Run calls before (take 1 (drop m xs)) (take 1 (drop m os)) finish
    after : Run calls finish (drop (suc m) xs) (drop (suc m) os) t
    result : IsErrorOf before.control.result (error_later error (take m os))
    given : GivesAnswer reason (refused_later refused (take m os)) before.control.result e (counts finish)

  ends_drain : (m : ℕ) (reason : Why) (error : Option OTelSdkError) (refused : Bool) (e : Option OTelSdkError)
      (s : Machine E) (xs : List Step) (os : List Outcome) (t : Machine E) → IsSound (counts s) →
      HoldsAnswer reason error refused (counts s) → Run calls s xs os t → NoneFinishes (take m os) →
      slice_get os m ≡ Some (outcome.Finished e) → EndsDrain m reason error refused e s xs os t
  ends_drain m reason error refused e s [] [] t sound h run on at =
      absurd (let os : List Outcome = [] in let none : slice_get os m ≡ None = refl in cc)
  ends_drain zero reason error refused e s (x ∷ xs) (o ∷ os) t sound h run on at =
      let is : o ≡ outcome.Finished e = cc in
      let row : IsPermitted (counts s) x (outcome.Finished e) (counts run.0) = rw is at run.1.permitted in
      record {
        before = s;
        finish = run.0;
        drain = refl;
        ends = (run.0, run.1, refl);
        after = run.2;
        result = h.result_is;
        given = finish_gives reason error refused (counts s) x e (counts run.0) sound row h;
      }
  ends_drain (suc m) reason error refused e s (x ∷ xs) (o ∷ os) t sound h run on at =
      let first = none-first o (take m os) on in
      let next = step_holds reason error refused (counts s) x o (counts run.0) run.1.permitted first.0 h in
      let rest = ends_drain m reason (error_after error o) (refused_after refused o) e run.0 xs os t run.1.sound next
      run.2 first.1 at in
      record {
        before = rest.before;
        finish = rest.finish;
        drain = (run.0, run.1, rest.drain);
        ends = rest.ends;
        after = rest.after;
        result = rest.result;
        given = rest.given;
      }
  ends_drain m reason error refused e s [] (o ∷ os) t sound h run on at = absurd run
  ends_drain m reason error refused e s (x ∷ xs) [] t sound h run on at = absurd run

  -- every finished drain of a run answers what its outcomes say
  pub run-answers : (s : Machine E) (xs : List Step) (os : List Outcome) (t : Machine E) → IsSound (counts s) →
      Run calls s xs os t → AnswersDrains calls s xs os t
  run-answers s xs os t sound run n m target e loads on finishes =
      let at = at_load calls n s xs os t target sound run loads in
      let held = load_holds at.loaded.0 at.loaded.1 target (counts at.load) at.loaded.2 in
      let last = ends_drain m at.load.control.why None false e at.load (drop (suc n) xs) (drop (suc n) os) t at.sound
      held at.after on finishes in
      record {
        load = at.load;
        before = last.before;
        finish = last.finish;
        up_to = at.up_to;
        drain = last.drain;
        ends = last.ends;
        after = last.after;
        held = last.result;
        given = rw (refused-finds (take m (drop (suc n) os))) at last.given;
      }
