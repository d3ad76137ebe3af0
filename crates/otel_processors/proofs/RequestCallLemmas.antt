-- What a flush or a shutdown of the batch processor does: answered, too late, or with no place for it.
use Rattle.std.proofs.Common.{◌≡◌, ◌∙◌, refl, ap, sym, not, Bool, true, false, List, Some, None, Result, Ok, Err}
use Rattle.std.specs.Bool.{MatchBool}
use Rattle.otel_export.specs.declared.error.OTelSdkError.{OTelSdkError}
use Rattle.otel_export.specs.PlainSpanData.{PlainSpanData}
use Rattle.otel_export.specs.declared.error.OTelSdkError.TheVariants.{AlreadyShutdown}
use Rattle.otel_export.specs.ExporterCalls.{IsInternalFailure}
use Rattle.otel_batch.specs.Slots.{is_idle}
use Rattle.otel_batch.specs.MachineState.{Control, Machine, Counts, counts, is_crowded, slot_at}
use Rattle.otel_batch.specs.SoundMachine.{IsSound}
use Rattle.otel_batch.specs.MachineRun.{IsStep}
use Rattle.otel_batch.specs.MovedSpans.{Keeps, MovesSpans}
use Rattle.otel_batch.specs.KnownRequests.{step_of}
use Rattle.otel_batch.specs.RequestSteps.{RequestRow}
use Rattle.otel_batch.specs.DrainResult.{IsErrorOf}
use Rattle.otel_batch.specs.PermittedStep.{IsPermitted}
use Rattle.otel_batch.specs.declared.machine.state.Request.{Request}
use Rattle.otel_batch.specs.declared.machine.state.Request.TheVariants as request
use Rattle.otel_batch.specs.declared.machine.state.Slot.TheVariants as slot
use Rattle.otel_batch.specs.declared.machine.step.Outcome.{Outcome}
use Rattle.otel_batch.specs.declared.machine.step.Outcome.TheVariants as outcome
use Rattle.otel_batch.specs.declared.machine.step.Step.TheVariants as step
use Rattle.otel_export.specs.declared.trace.export.SpanExporter.{Ghosts}
use Rattle.otel_batch.proofs.BusyLemmas.{is_busy}
use Rattle.otel_batch.proofs.Runs.{run-sound}
use Rattle.otel_batch.specs.WorkedOff.{CollectsAnswer, next_of_worker, own_error, own_refusal}
use Rattle.otel_processors.specs.QueueRequests.{ClosesIfOk, IsAtRest, MakesRequest, Requests, ShutdownAnswers, queue_telling}
use Rattle.otel_processors.proofs.SteppingLemmas.{goes_runs}
use Rattle.otel_processors.proofs.Telling.{TellsError, goes_tells}
use Rattle.otel_processors.proofs.Closing.{TellsShutdown, goes_tells_shutdown}
use Rattle.otel_processors.proofs.RestsAgainLemmas.{none_stranded}
use Rattle.otel_processors.proofs.TakenSpanLemmas.{takes_none, tells_nothing}
use Rattle.otel_processors.proofs.AnsweredRequestLemmas.{AnsweredRests, posted_is, answered_rests}

-- the case of a test whose value is known
where_true : (A B : Type 0) (b : Bool) → b ≡ true → A → MatchBool b A B
where_true A B true e x = x
where_true A B false e x = absurd (cc)

where_false : (A B : Type 0) (b : Bool) → b ≡ false → B → MatchBool b A B
where_false A B true e x = absurd (cc)
where_false A B false e x = x

-- two machines of the same parts
pub same_machine : {E : Type 0} (s t : Machine E) → t.control ≡ s.control → Keeps s t → t ≡ s
same_machine {E} s t control keeps =
    ap (λ (c : Control). record t { control = c }) control
    ∙ ap (λ (h : List PlainSpanData). record t { control = s.control; hand = h }) keeps.hand
    ∙ ap (λ (w : List PlainSpanData). record t { control = s.control; hand = s.hand; waiting = w }) keeps.waiting
    ∙ ap (λ (e : E). record s { exporter = e }) keeps.exporter

-- a request is one of a row
pub request_row : (asked : Request) (s : Counts) (o : Outcome) (t : Counts) → IsPermitted s (step_of asked 0) o t →
    RequestRow s asked 0 o t
request_row request.Flush s o t row = row
request_row request.Shutdown s o t row = row

module _ {E : Type 0} (calls : Ghosts E) where
  pub request_keeps : (asked : Request) (s : Machine E) (o : Outcome) (t : Machine E) →
      MovesSpans calls s (step_of asked 0) o t → Keeps s t
  request_keeps request.Flush s o t moved = moved
  request_keeps request.Shutdown s o t moved = moved

  -- a request that is answered
  pub requested_rests : (asked : Request) (s m : Machine E) (answer : Result (Unit {0}) OTelSdkError) (t : Machine E) →
      IsSound (counts s) → IsAtRest s → IsStep calls s (step_of asked 0) outcome.Requested m →
      CollectsAnswer calls m answer t → AnsweredRests calls asked s answer t
  requested_rests asked s m answer t sound rest steps collects =
      let at = posted_is asked s m sound rest
      (request_row asked (counts s) outcome.Requested (counts m) steps.permitted)
      (request_keeps asked s outcome.Requested m steps.moved) in
      let works = collects.works in
      let worked = collects.answered in
      let after = run-sound calls m works.steps collects.outcomes worked steps.sound
      (goes_runs calls next_of_worker m works.steps collects.outcomes worked works.goes) in
      let last : IsStep calls worked (step.Collect 0) (outcome.Collected answer) t = rw collects.collects.2 collects.collects.1 in
      answered_rests calls asked s m worked t collects.outcomes answer at rest.hand steps.sound after works last

  -- who asked for a flush has the answer of its own drain
  flush_says : (asked : Request) (s m : Machine E) (answer : Result (Unit {0}) OTelSdkError) (t : Machine E) →
      IsSound (counts s) → IsAtRest s → IsStep calls s (step_of asked 0) outcome.Requested m →
      (collected : CollectsAnswer calls m answer t) → asked ≡ request.Flush →
      IsErrorOf answer (own_error None collected.outcomes)
  flush_says asked s m answer t sound rest steps collected is =
      let at = posted_is asked s m sound rest
      (request_row asked (counts s) outcome.Requested (counts m) steps.permitted)
      (request_keeps asked s outcome.Requested m steps.moved) in
      let begins : TellsError None (counts m) = record {
        result = λ h. absurd (let no : is_busy m.control.worker ≡ false = rw at.ready refl in cc);
        answered = λ given has. absurd (let no : Some (slot.Waiting asked) ≡ Some (slot.Answered given) = sym at.waits ∙ has in cc);
      } in
      let works = collected.works in
      let tells = goes_tells calls None m works.steps collected.outcomes collected.answered steps.sound at.alone
      (at.flush is) begins works.goes in
      let last : IsStep calls collected.answered (step.Collect 0) (outcome.Collected answer) t =
      rw collected.collects.2 collected.collects.1 in
      tells.answered answer last.permitted.0

  -- who asked for a shutdown has an answer by whether its own drain found memory
  shutdown_says : (asked : Request) (s m : Machine E) (answer : Result (Unit {0}) OTelSdkError) (t : Machine E) →
      IsSound (counts s) → IsAtRest s → IsStep calls s (step_of asked 0) outcome.Requested m →
      (collected : CollectsAnswer calls m answer t) → asked ≡ request.Shutdown →
      ShutdownAnswers (own_refusal false collected.outcomes) answer t.control.closed
  shutdown_says asked s m answer t sound rest steps collected is =
      let at = posted_is asked s m sound rest
      (request_row asked (counts s) outcome.Requested (counts m) steps.permitted)
      (request_keeps asked s outcome.Requested m steps.moved) in
      let begins : TellsShutdown false (counts m) = record {
        held = λ h. absurd (let no : is_busy m.control.worker ≡ false = rw at.ready refl in cc);
        found = λ h. refl;
        answered = λ given has. absurd (let no : Some (slot.Waiting asked) ≡ Some (slot.Answered given) = sym at.waits ∙ has in cc);
      } in
      let works = collected.works in
      let tells = goes_tells_shutdown calls false m works.steps collected.outcomes collected.answered steps.sound
      at.alone (at.shutdown is) begins works.goes in
      let last : IsStep calls collected.answered (step.Collect 0) (outcome.Collected answer) t =
      rw collected.collects.2 collected.collects.1 in
      let same : t.control.closed ≡ collected.answered.control.closed =
      ap (λ c. c.control.closed) last.permitted.1 in
      rw same (tells.answered answer last.permitted.0)

  -- what the answer of a shutdown means
  closes_if_ok : (refused : Bool) (s : Machine E) (answer : Result (Unit {0}) OTelSdkError) (t : Machine E) →
      s.control.closed ≡ false → ShutdownAnswers refused answer t.control.closed → ClosesIfOk s answer t
  closes_if_ok false s (Ok u) t was_open says = says.1
  closes_if_ok false s (Err e) t was_open says = absurd (let no = says.0 in cc)
  closes_if_ok true s (Ok u) t was_open says = absurd (let no = says.0 in cc)
  closes_if_ok true s (Err e) t was_open says = says.1 ∙ sym was_open

  -- a request after a shutdown changes nothing
  pub request_closed : (asked : Request) (s t : Machine E) → IsStep calls s (step_of asked 0) outcome.Closed t →
      (s.control.closed ≡ true) × (t ≡ s)
  request_closed asked s t steps =
      let row = request_row asked (counts s) outcome.Closed (counts t) steps.permitted in
      (row.1, same_machine s t (ap (λ c. c.control) row.2) (request_keeps asked s outcome.Closed t steps.moved))

  -- so does one that finds the control queue full
  pub request_refused : (asked : Request) (s : Machine E) (o : Outcome) (t : Machine E) → IsAtRest s →
      IsStep calls s (step_of asked 0) o t → (o ≡ outcome.Requested → ⊥) → (o ≡ outcome.Closed → ⊥) →
      (s.control.closed ≡ false) × (is_crowded (counts s) ≡ true) × (t ≡ s)
  request_refused asked s o t rest steps posted shut =
      by_outcome o (request_row asked (counts s) o (counts t) steps.permitted) posted shut
    where
      keeps : Keeps s t
      keeps = request_keeps asked s o t steps.moved

      by_outcome : (k : Outcome) → RequestRow (counts s) asked 0 k (counts t) → (k ≡ outcome.Requested → ⊥) →
          (k ≡ outcome.Closed → ⊥) → (s.control.closed ≡ false) × (is_crowded (counts s) ≡ true) × (t ≡ s)
      by_outcome outcome.Full row posted shut =
          (row.1, row.2, same_machine s t (ap (λ c. c.control) row.3) keeps)
      by_outcome outcome.Requested row posted shut = absurd (posted refl)
      by_outcome outcome.Closed row posted shut = absurd (shut refl)
      by_outcome outcome.NotEnabled row posted shut =
          absurd (let idle : is_idle (slot_at (counts s) 0) ≡ true = rw rest.slots refl in let none = row.0 in cc)
      by_outcome _ row posted shut = absurd row

  pub made_answered : (asked : Request) (s m : Machine E) (answer : Result (Unit {0}) OTelSdkError) (t : Machine E) →
      IsSound (counts s) → IsAtRest s → IsStep calls s (step_of asked 0) outcome.Requested m →
      CollectsAnswer calls m answer t → MakesRequest calls asked s answer t
  made_answered asked s m answer t sound rest steps collected =
      let row = request_row asked (counts s) outcome.Requested (counts m) steps.permitted in
      let left = requested_rests asked s m answer t sound rest steps collected in
      record {
        gives = where_false _ _ s.control.closed row.1 (where_false _ _ (is_crowded (counts s)) row.2
            (record {
              posted = m;
              posts = (m, steps, refl);
              answers = collected;
              says = flush_says asked s m answer t sound rest steps collected;
              shuts = shutdown_says asked s m answer t sound rest steps collected;
            }));
        told = tells_nothing calls s t left.again (λ _. ap not row.1);
        emptied = left.emptied;
        is_open = left.flush;
        shutdown = λ is. closes_if_ok _ s answer t row.1 (shutdown_says asked s m answer t sound rest steps collected is);
        left = none_stranded t left.again.rest;
        rest = left.again.rest;
      }

  -- one that changes nothing
  made_none : (asked : Request) (s : Machine E) (error : OTelSdkError) (t : Machine E) → IsAtRest s → t ≡ s →
      Requests calls asked s (Err error) t → MakesRequest calls asked s (Err error) t
  made_none asked s error t rest is gives = record {
    gives = gives;
    told = rw is (takes_none (queue_telling calls s));
    emptied = tt;
    is_open = λ _. ap (λ m. m.control.closed) is;
    shutdown = λ _. ap (λ m. m.control.closed) is;
    left = none_stranded t (rw is rest);
    rest = rw is rest;
  }

  pub made_closed : (asked : Request) (s t : Machine E) → IsAtRest s →
      IsStep calls s (step_of asked 0) outcome.Closed t → MakesRequest calls asked s (Err AlreadyShutdown) t
  made_closed asked s t rest steps =
      let left = request_closed asked s t steps in
      made_none asked s AlreadyShutdown t rest left.1 (where_true _ _ s.control.closed left.0 (refl, left.1))

  pub made_refused : (asked : Request) (s : Machine E) (o : Outcome) (error : OTelSdkError) (t : Machine E) →
      IsAtRest s → IsStep calls s (step_of asked 0) o t → (o ≡ outcome.Requested → ⊥) → (o ≡ outcome.Closed → ⊥) →
      IsInternalFailure error → MakesRequest calls asked s (Err error) t
  made_refused asked s o error t rest steps posted shut says =
      let left = request_refused asked s o t rest steps posted shut in
      made_none asked s error t rest left.2 (where_false _ _ s.control.closed left.0
      (where_true _ _ (is_crowded (counts s)) left.1 (says, left.2)))
