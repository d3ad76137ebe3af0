-- A drain for which nobody waits leaves nothing waiting, where it finds memory for each batch.
use Rattle.std.proofs.Common.{◌≡◌, ◌∙◌, refl, ap, sym, ◌+◌, ◌==◌, ◌||◌, Bool, true, false, List, [], ◌∷◌, Option, Some, Err, length, nat_lt, if◌then◌else◌}
use Rattle.otel_export.specs.declared.error.OTelSdkError.{OTelSdkError}
use Rattle.otel_export.specs.declared.error.OTelSdkError.TheVariants.{OutOfMemory}
use Rattle.otel_batch.specs.Workers.{is_ready, is_gone, is_draining, is_finishing, is_closing}
use Rattle.otel_batch.specs.MachineState.{Machine, Counts, counts, limit_of, put_slot, slot_at}
use Rattle.otel_batch.specs.SoundMachine.{IsSound}
use Rattle.otel_batch.specs.WorkerSteps.{TakeRow, ClearRow, LoadRow, PullRow, HandOverRow, SubtractRow, TickRow}
use Rattle.otel_batch.specs.DrainAnswers.{finds_no_memory}
use Rattle.otel_batch.specs.DrainEnds.{FinishRow, FinishRowFor, CloseRow, end_of_drain}
use Rattle.otel_batch.specs.PermittedStep.{IsPermitted}
use Rattle.otel_batch.specs.GoingOn.{next_step}
use Rattle.otel_batch.specs.declared.machine.state.Slot.TheVariants as slot
use Rattle.otel_batch.specs.declared.machine.state.Worker.{Worker}
use Rattle.otel_batch.specs.declared.machine.state.Worker.TheVariants as worker
use Rattle.otel_batch.specs.declared.machine.state.Why.{Why}
use Rattle.otel_batch.specs.declared.machine.state.Why.TheVariants as why
use Rattle.otel_batch.specs.declared.machine.step.Outcome.{Outcome}
use Rattle.otel_batch.specs.declared.machine.step.Outcome.TheVariants as outcome
use Rattle.otel_batch.specs.declared.machine.step.Step.{Step}
use Rattle.otel_export.specs.declared.trace.export.SpanExporter.{Ghosts}
use Rattle.otel_batch.specs.WorkedOff.{GoesBy, WorksOff, next_of_worker}
use Rattle.otel_processors.specs.QueueRequests.{IsAtRest}
use Rattle.otel_processors.proofs.LoneProducerLemmas.{EndsDrain, IsAlone, next_alone}
use Rattle.otel_processors.proofs.Worker.{has_next, next_permitted}

abbrev pub is_no_memory : Outcome → Bool
is_no_memory outcome.NoMemory = true
is_no_memory _ = false

-- neither the first outcome nor a later one found no memory
memory_found : (o : Outcome) (os : List Outcome) → finds_no_memory (o ∷ os) ≡ false →
    (is_no_memory o ≡ false) × (finds_no_memory os ≡ false)
memory_found outcome.NoMemory os h = absurd (cc)
memory_found _ os h = (refl, h)

-- a worker at rest has left nothing waiting, and a drain that is to finish was not refused memory
pub record Empties (s : Counts) : Type 0 where
  pub rests : is_ready s.control.worker || is_gone s.control.worker ≡ true → s.waiting ≡ 0
  pub found : is_finishing s.control.worker ≡ true → s.control.refused ≡ false

at_work : (t : Counts) (w : Worker) → t.control.worker ≡ w → is_ready w || is_gone w ≡ false →
    is_finishing w ≡ false → Empties t
at_work t w is busy ends = record {
  rests = λ h. absurd (let no : is_ready t.control.worker || is_gone t.control.worker ≡ false = rw is busy in cc);
  found = λ h. absurd (let no : is_finishing t.control.worker ≡ false = rw is ends in cc);
}

in_drain : (t : Counts) (w : Worker) → t.control.worker ≡ w → is_ready w || is_gone w ≡ false →
    t.control.refused ≡ false → Empties t
in_drain t w is busy found = record {
  rests = λ h. absurd (let no : is_ready t.control.worker || is_gone t.control.worker ≡ false = rw is busy in cc);
  found = λ h. found;
}

-- whatever a test says the worker is not at rest
one_of : (b : Bool) (w x : Worker) → is_ready w || is_gone w ≡ false → is_ready x || is_gone x ≡ false →
    is_ready (if b then w else x) || is_gone (if b then w else x) ≡ false
one_of true w x h k = h
one_of false w x h k = k

take_empties : (s : Counts) (o : Outcome) (t : Counts) → Empties s → TakeRow s o t → Empties t
take_empties s outcome.Nothing t h row = rw row.2 h
take_empties s outcome.NotEnabled t h row = rw row.1 h
take_empties s outcome.TookExport t h row = at_work t _ (ap (λ c. c.control.worker) row.2) refl refl
take_empties s (outcome.TookFlush p) t h row = at_work t _ (ap (λ c. c.control.worker) row.2) refl refl
take_empties s (outcome.TookShutdown p) t h row = at_work t _ (ap (λ c. c.control.worker) row.2) refl refl
take_empties s outcome.TookResource t h row =
    let is : t.control.worker ≡ worker.Ready = ap (λ c. c.control.worker) row.2 in
    record {
      rests = λ _. ap (λ c. c.waiting) row.2 ∙ h.rests (rw row.0 refl);
      found = λ k. absurd (let no : is_finishing t.control.worker ≡ false = rw is refl in cc);
    }
take_empties s _ t h row = absurd row

clear_empties : (s : Counts) (o : Outcome) (t : Counts) → Empties s → ClearRow s o t → Empties t
clear_empties s outcome.Cleared t h row = at_work t _ (ap (λ c. c.control.worker) row.1) refl refl
clear_empties s outcome.NotEnabled t h row = rw row.1 h
clear_empties s _ t h row = absurd row

load_empties : (s : Counts) (o : Outcome) (t : Counts) → Empties s → LoadRow s o t → Empties t
load_empties s (outcome.Loaded k) t h row =
    in_drain t _ (ap (λ c. c.control.worker) row.3) (one_of (k == 0) worker.Finishing worker.Pulling refl refl)
    (ap (λ c. c.control.refused) row.3)
load_empties s outcome.NotEnabled t h row = rw row.1 h
load_empties s _ t h row = absurd row

pull_empties : (s : Counts) (o : Outcome) (t : Counts) → IsAlone s → is_no_memory o ≡ false → Empties s →
    PullRow s o t → Empties t
pull_empties s outcome.Empty t a some h row =
    in_drain t _ (ap (λ c. c.control.worker) row.2) (one_of (s.hand == 0) worker.Finishing worker.Handing refl refl)
    (ap (λ c. c.control.refused) row.2 ∙ (a.draining (rw row.0 refl)).0)
pull_empties s outcome.NoMemory t a some h row = absurd (cc)
pull_empties s outcome.Pulled t a some h row =
    in_drain t _ (ap (λ c. c.control.worker) row.2)
    (one_of (nat_lt (s.hand + 1) (limit_of s.control)) worker.Pulling worker.Handing refl refl)
    (ap (λ c. c.control.refused) row.2 ∙ (a.draining (rw row.0 refl)).0)
pull_empties s outcome.NotEnabled t a some h row = rw row.1 h
pull_empties s _ t a some h row = absurd row

hand_over_empties : (s : Counts) (o : Outcome) (t : Counts) → Empties s → HandOverRow s o t → Empties t
hand_over_empties s (outcome.HandedOver k e) t h row = at_work t _ (ap (λ c. c.control.worker) row.3) refl refl
hand_over_empties s outcome.NotEnabled t h row = rw row.1 h
hand_over_empties s _ t h row = absurd row

subtract_empties : (s : Counts) (o : Outcome) (t : Counts) → IsAlone s → Empties s → SubtractRow s o t → Empties t
subtract_empties s outcome.Subtracted t a h row =
    in_drain t _ (ap (λ c. c.control.worker) row.2)
    (one_of (nat_lt (s.control.done + row.0) s.control.target) worker.Pulling worker.Finishing refl refl)
    (ap (λ c. c.control.refused) row.2 ∙ (a.draining (rw row.1 refl)).0)
subtract_empties s outcome.NotEnabled t a h row = rw row.1 h
subtract_empties s _ t a h row = absurd row

-- a drain that was not refused memory left nothing waiting
none_waits : (b : Bool) (s : Counts) → b ≡ false → EndsDrain b s → s.waiting ≡ 0
none_waits true s e ends = absurd (cc)
none_waits false s e ends = ends

ended : (s t next : Counts) → t ≡ next → next.waiting ≡ s.waiting → next.control.refused ≡ s.control.refused →
    s.waiting ≡ 0 → s.control.refused ≡ false → Empties t
ended s t next is waiting refused none found = record {
  rests = λ _. ap (λ c. c.waiting) is ∙ (waiting ∙ none);
  found = λ _. ap (λ c. c.control.refused) is ∙ (refused ∙ found);
}

finish_empties_for : (y : Why) (s : Counts) (e : Option OTelSdkError) (t : Counts) → s.waiting ≡ 0 →
    s.control.refused ≡ false → FinishRowFor y s e t → Empties t
finish_empties_for why.Asked s e t none found row = ended s t _ row.1 refl refl none found
finish_empties_for why.Timer s e t none found row = ended s t _ row.1 refl refl none found
finish_empties_for (why.Flush p) s e t none found row = ended s t _ row.1 refl refl none found
finish_empties_for (why.Shutdown p) s e t none found row = shut s.control.refused row.1
  where
    shut : (b : Bool) → t ≡ (if b
        then put_slot (end_of_drain s worker.Ready) p (slot.Answered (Err OutOfMemory))
        else end_of_drain s (worker.Closing p)) → Empties t
    shut true is = ended s t _ is refl refl none found
    shut false is = ended s t _ is refl refl none found

finish_empties : (s : Counts) (o : Outcome) (t : Counts) → IsAlone s → Empties s → FinishRow s o t → Empties t
finish_empties s (outcome.Finished e) t a h row =
    let ends : is_finishing s.control.worker ≡ true = rw row.0 refl in
    finish_empties_for s.control.why s e t (none_waits s.control.refused s (h.found ends) (a.finishing ends))
    (h.found ends) row.1
finish_empties s outcome.NotEnabled t a h row = rw row.1 h
finish_empties s _ t a h row = absurd row

close_empties : (s : Counts) (o : Outcome) (t : Counts) → IsAlone s → Empties s → CloseRow s o t → Empties t
close_empties s (outcome.ShutDown n) t a h row =
    let gone : t.control.worker ≡ worker.Gone = ap (λ c. c.control.worker) row.3 in
    record {
      rests = λ _. ap (λ c. c.waiting) row.3 ∙ a.closing row.0;
      found = λ k. absurd (let no : is_finishing t.control.worker ≡ false = rw gone refl in cc);
    }
close_empties s outcome.NotEnabled t a h row = rw row.1 h
close_empties s _ t a h row = absurd row

-- the worker's next step
next_empties : (w : Worker) (s : Counts) (o : Outcome) (t : Counts) → IsAlone s → is_no_memory o ≡ false → Empties s →
    IsPermitted s (next_step w) o t → Empties t
next_empties worker.Ready s o t a some h row = take_empties s o t h row
next_empties worker.Clearing s o t a some h row = clear_empties s o t h row
next_empties (worker.Loading y) s o t a some h row = load_empties s o t h row
next_empties worker.Pulling s o t a some h row = pull_empties s o t a some h row
next_empties worker.Handing s o t a some h row = hand_over_empties s o t h row
next_empties (worker.Subtracting k) s o t a some h row = subtract_empties s o t a h row
next_empties worker.Finishing s o t a some h row = finish_empties s o t a h row
next_empties (worker.Closing p) s o t a some h row = close_empties s o t a h row
next_empties worker.Gone s o t a some h row = take_empties s o t h row

module _ {E : Type 0} (calls : Ghosts E) where
  goes_empties : (s : Machine E) (xs : List Step) (os : List Outcome) (t : Machine E) → IsSound (counts s) →
      IsAlone (counts s) → finds_no_memory os ≡ false → Empties (counts s) → GoesBy calls next_of_worker s xs os t →
      Empties (counts t)
  goes_empties s [] [] t sound a some h goes = rw goes h
  goes_empties s (x ∷ xs) (o ∷ os) t sound a some h goes =
      let has = has_next s.control x goes.0 in
      let row = next_permitted calls s x o goes.1 has goes.2 in
      let found = memory_found o os some in
      goes_empties goes.1 xs os t goes.2.sound
      (next_alone s.control.worker (counts s) o (counts goes.1) sound a has.unanswered row) found.1
      (next_empties s.control.worker (counts s) o (counts goes.1) a found.0 h row) goes.3
  goes_empties s [] (o ∷ os) t sound a some h goes = absurd goes
  goes_empties s (x ∷ xs) [] t sound a some h goes = absurd goes

  -- the timer's drain
  pub tick_empties : (s m : Machine E) (os : List Outcome) (t : Machine E) → IsAtRest s → IsSound (counts m) →
      TickRow (counts s) outcome.Ticked (counts m) → WorksOff calls next_of_worker m os t → IsAtRest t →
      finds_no_memory os ≡ false → length t.waiting ≡ 0
  tick_empties s m os t rest sound row works after some =
      let loading : m.control.worker ≡ worker.Loading why.Timer = ap (λ c. c.control.worker) row.1 in
      let slots : m.control.slots ≡ slot.Idle ∷ [] = ap (λ c. c.control.slots) row.1 ∙ rest.slots in
      let alone : IsAlone (counts m) = record {
        one = ap length slots;
        draining = λ h. absurd (let no : is_draining m.control.worker ≡ false = rw loading refl in cc);
        finishing = λ h. absurd (let no : is_finishing m.control.worker ≡ false = rw loading refl in cc);
        closing = λ h. absurd (let no : is_closing m.control.worker ≡ false = rw loading refl in cc);
        answered = λ answer has. absurd (let idle : slot_at (counts m) 0 ≡ Some slot.Idle = rw slots refl in
            let no : Some slot.Idle ≡ Some (slot.Answered answer) = sym idle ∙ has in cc);
      } in
      (goes_empties m works.steps os t sound alone some (at_work (counts m) _ loading refl refl) works.goes).rests
      after.worker
