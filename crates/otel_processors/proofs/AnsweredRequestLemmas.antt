-- From a request at a queue at rest to its answer: who waits is answered, and the queue is at rest again.
use Rattle.std.proofs.Common.{◌≡◌, ◌⊎◌, ◌∙◌, inl, inr, refl, ap, sym, ℕ, zero, suc, ◌||◌, true, false, List, [], ◌∷◌, ◌++◌, Some, Result, Ok, Err, OnOk, length, slice_get, slice_set, sum_by, arith}
use Rattle.std.proofs.Math.ListN.{length-set}
use Rattle.circular_buffer.proofs.Places.{slice_get-set_same}
use Rattle.std.proofs.lemmas.List.{nil_from_length}
use Rattle.std.proofs.lemmas.List.Sums.{sum_by-append}
use Rattle.otel_export.specs.declared.error.OTelSdkError.{OTelSdkError}
use Rattle.otel_batch.specs.Slots.{is_answered, slot_waits}
use Rattle.otel_batch.specs.Messages.{message_names, message_of}
use Rattle.otel_batch.specs.Workers.{is_ready, is_gone, is_draining, is_finishing, is_closing}
use Rattle.otel_batch.specs.MachineState.{Machine, Counts, counts, slot_at}
use Rattle.otel_batch.specs.SoundMachine.{IsSound}
use Rattle.otel_batch.specs.MachineRun.{IsStep}
use Rattle.otel_batch.specs.MovedSpans.{Keeps}
use Rattle.otel_batch.specs.RequestSteps.{CollectRow, RequestRow}
use Rattle.otel_batch.specs.declared.machine.state.Request.{Request}
use Rattle.otel_batch.specs.declared.machine.state.Request.TheVariants as request
use Rattle.otel_batch.specs.declared.machine.state.Slot.TheVariants as slot
use Rattle.otel_batch.specs.declared.machine.state.Worker.TheVariants as worker
use Rattle.otel_batch.specs.declared.machine.step.Outcome.{Outcome}
use Rattle.otel_batch.specs.declared.machine.step.Outcome.TheVariants as outcome
use Rattle.otel_batch.specs.declared.machine.step.Step.TheVariants as step
use Rattle.otel_export.specs.declared.trace.export.SpanExporter.{Ghosts}
use Rattle.otel_batch.specs.WorkedOff.{WorksOff, is_idle_worker, next_of_worker}
use Rattle.otel_processors.specs.QueueRequests.{IsAtRest}
use Rattle.otel_processors.proofs.Ending.{one_slot}
use Rattle.otel_processors.proofs.LoneProducerLemmas.{IsAlone, goes_alone}
use Rattle.otel_processors.proofs.RequestKindLemmas.{Kind, flushing, goes_open, no_request, requests_in, shutting}
use Rattle.otel_processors.proofs.WorkerRunLemmas.{goes_hands_on, goes_on_waiting, hands_on_told, rest_empty}
use Rattle.otel_processors.proofs.RestsAgainLemmas.{RestsAgain, over_is, same_heard, ready_open, has_answer}

-- the machine after a request: the producer waits, and nothing else that is seen here has changed
pub record Posted {E : Type 0} (asked : Request) (s posted : Machine E) : Type 0 where
  pub waits : slot_at (counts posted) 0 ≡ Some (slot.Waiting asked)
  pub ready : posted.control.worker ≡ worker.Ready
  pub alone : IsAlone (counts posted)
  pub keeps : Keeps s posted
  pub dropped : posted.control.dropped ≡ s.control.dropped
  pub closed : posted.control.closed ≡ s.control.closed
  pub flush : asked ≡ request.Flush → requests_in shutting (counts posted) ≡ 0
  pub shutdown : asked ≡ request.Shutdown → requests_in flushing (counts posted) ≡ 0

flush_shuts : (asked : Request) → asked ≡ request.Flush → shutting.of_message (message_of asked 0) ≡ 0
flush_shuts request.Flush e = refl
flush_shuts request.Shutdown e = absurd (cc)

shutdown_flushes : (asked : Request) → asked ≡ request.Shutdown → flushing.of_message (message_of asked 0) ≡ 0
shutdown_flushes request.Shutdown e = refl
shutdown_flushes request.Flush e = absurd (cc)

-- at rest nobody asks for anything
none_asks : {E : Type 0} (s : Machine E) → IsSound (counts s) → IsAtRest s → (p : ℕ) →
    sum_by (message_names p) s.control.messages ≡ 0
none_asks s sound rest p =
    let each = sound.awaited.each p in
    let none : slot_waits (slice_get s.control.slots p) ≡ 0 = rw rest.slots (idle_at p) in
    omega (arith, each, none)
  where
    idle_at : (q : ℕ) → slot_waits (slice_get (slot.Idle ∷ []) q) ≡ 0
    idle_at zero = refl
    idle_at (suc q) = refl

pub posted_is : {E : Type 0} (asked : Request) (s posted : Machine E) → IsSound (counts s) → IsAtRest s →
    RequestRow (counts s) asked 0 outcome.Requested (counts posted) → Keeps s posted → Posted asked s posted
posted_is asked s posted sound rest row keeps =
    let slots : posted.control.slots ≡ slot.Waiting asked ∷ [] =
    ap (λ c. c.control.slots) row.3 ∙ ap (λ l. slice_set l 0 (slot.Waiting asked)) rest.slots in
    let ready = ready_open s sound rest row.1 in
    let worker : posted.control.worker ≡ worker.Ready = ap (λ c. c.control.worker) row.3 ∙ ready in
    let messages : posted.control.messages ≡ s.control.messages ++ message_of asked 0 ∷ [] =
    ap (λ c. c.control.messages) row.3 in
    record {
      waits = rw slots refl;
      ready = worker;
      alone = record {
        one = rw slots refl;
        draining = λ h. absurd (let no : is_draining posted.control.worker ≡ false = rw worker refl in cc);
        finishing = λ h. absurd (let no : is_finishing posted.control.worker ≡ false = rw worker refl in cc);
        closing = λ h. absurd (let no : is_closing posted.control.worker ≡ false = rw worker refl in cc);
        answered = λ answer has. absurd (let waits : slot_at (counts posted) 0 ≡ Some (slot.Waiting asked) = rw slots refl in
            let no : Some (slot.Waiting asked) ≡ Some (slot.Answered answer) = sym waits ∙ has in cc);
      };
      keeps = keeps;
      dropped = ap (λ c. c.control.dropped) row.3;
      closed = ap (λ c. c.control.closed) row.3;
      flush = λ is. posted_kind shutting messages worker (flush_shuts asked is);
      shutdown = λ is. posted_kind flushing messages worker (shutdown_flushes asked is);
    }
  where
    posted_kind : (kind : Kind) → posted.control.messages ≡ s.control.messages ++ message_of asked 0 ∷ [] →
        posted.control.worker ≡ worker.Ready → kind.of_message (message_of asked 0) ≡ 0 →
        requests_in kind (counts posted) ≡ 0
    posted_kind kind messages worker more =
        let before = no_request kind s.control.messages (none_asks s sound rest) in
        let both = sum_by-append kind.of_message s.control.messages (message_of asked 0 ∷ []) in
        rw (messages, worker) (omega (arith, before, more, both))

-- what an answered request leaves
pub record AnsweredRests {E : Type 0} (calls : Ghosts E) (asked : Request) (s : Machine E)
    (answer : Result (Unit {0}) OTelSdkError) (t : Machine E) : Type 0 where
  pub again : RestsAgain calls s t
  pub emptied : OnOk answer (t.waiting ≡ [])
  pub flush : asked ≡ request.Flush → t.control.closed ≡ s.control.closed

on_ok_left : {X : Type 0} (answer : Result (Unit {0}) OTelSdkError) (xs : List X) → OnOk answer (length xs ≡ 0) →
    OnOk answer (xs ≡ [])
on_ok_left (Ok u) xs h = nil_from_length xs h
on_ok_left (Err x) xs h = tt

module _ {E : Type 0} (calls : Ghosts E) where
  -- the request is answered where the worker stops
  pub is_answered_at : (s : Machine E) (os : List Outcome) (m : Machine E) (asked : Request) → IsSound (counts m) →
      slot_at (counts s) 0 ≡ Some (slot.Waiting asked) → WorksOff calls next_of_worker s os m →
      is_answered (slot_at (counts m) 0) ≡ true
  is_answered_at s os m asked after waits works =
      by_over (goes_on_waiting calls s works.steps os m asked waits works.goes) (over_is m.control works.over)
    where
      by_over : (slot_at (counts m) 0 ≡ Some (slot.Waiting asked)) ⊎ (is_answered (slot_at (counts m) 0) ≡ true) →
          (is_answered (slice_get m.control.slots 0) ≡ true) ⊎ (is_idle_worker m.control ≡ true) →
          is_answered (slot_at (counts m) 0) ≡ true
      by_over (inr found) over = found
      by_over (inl still) (inl found) = found
      by_over (inl still) (inr idle) = has_answer (counts m) after (rw still refl) idle

  pub answered_rests : (asked : Request) (s posted m t : Machine E) (os : List Outcome)
      (answer : Result (Unit {0}) OTelSdkError) → Posted asked s posted → s.hand ≡ [] → IsSound (counts posted) →
      IsSound (counts m) → WorksOff calls next_of_worker posted os m →
      IsStep calls m (step.Collect 0) (outcome.Collected answer) t → AnsweredRests calls asked s answer t
  answered_rests asked s posted m t os answer at empty sound after works collects =
      let alone = goes_alone calls posted works.steps os m sound at.alone works.goes in
      let row = collects.permitted in
      let is_done = alone.answered answer row.0 in
      let slots : t.control.slots ≡ slot.Idle ∷ [] = one_slot t.control.slots slot.Idle
      (ap (λ c. length c.control.slots) row.1 ∙ (length-set m.control.slots 0 slot.Idle ∙ alone.one))
      (ap (λ c. slice_get c.control.slots 0) row.1
      ∙ slice_get-set_same m.control.slots 0 slot.Idle (omega (arith, alone.one))) in
      let rests : is_ready t.control.worker || is_gone t.control.worker ≡ true =
      ap (λ c. is_ready c.control.worker || is_gone c.control.worker) row.1 ∙ is_done.rests in
      let on = goes_hands_on calls posted works.steps os m works.goes in
      let emptied = rest_empty m after is_done.rests in
      let heard = hands_on_told calls posted m (at.keeps.hand ∙ empty) emptied on in
      record {
        again = record {
          rest = record {
            slots = slots;
            worker = rests;
            hand = collects.moved.hand ∙ emptied;
            left = λ shut.
                let gone : is_gone m.control.worker ≡ true =
                sym after.awaited.gone ∙ (sym (ap (λ c. c.control.closed) row.1) ∙ shut) in
                collects.moved.waiting ∙ nil_from_length m.waiting (is_done.gone gone);
          };
          heard = rw (← same_heard calls s posted at.keeps, same_heard calls m t collects.moved) heard;
          dropped = ap (λ c. c.control.dropped) row.1 ∙ (on.dropped ∙ at.dropped);
        };
        emptied = rw collects.moved.waiting (on_ok_left answer m.waiting is_done.empty);
        flush = λ is. ap (λ c. c.control.closed) row.1
            ∙ (goes_open calls posted works.steps os m (at.flush is) works.goes ∙ at.closed);
      }

-- an answer is collected where there is one
pub collects : (s : Counts) (o : Outcome) (t : Counts) → is_answered (slot_at s 0) ≡ true → CollectRow s 0 o t →
    (answer : Result (Unit {0}) OTelSdkError) × (o ≡ outcome.Collected answer)
collects s (outcome.Collected answer) t has row = (answer, refl)
collects s outcome.NotEnabled t has row = absurd (let none = row.0 in cc)
collects s _ t has row = absurd row
