-- A batch processor's queue is at rest again after its worker ran, after the timer's drain and after a resource.
use Rattle.std.proofs.Common.{◌≡◌, ◌⊎◌, ◌∙◌, inl, inr, refl, ap, sym, ◌+◌, ◌||◌, ◌==◌, Bool, true, false, List, [], ◌∷◌, Some, None, length, slice_get, sum_by, if◌then◌else◌, arith}
use Rattle.std.proofs.lemmas.Bool.Decides.{eqb_tells}
use Rattle.otel_resource.specs.Resource.{PlainResource}
use Rattle.otel_export.specs.Telling.{Tells}
use Rattle.otel_batch.specs.Slots.{is_answered, slot_waits}
use Rattle.otel_batch.specs.Messages.{message_names}
use Rattle.otel_batch.specs.Workers.{is_ready, is_gone, worker_names}
use Rattle.otel_batch.specs.MachineState.{Control, Machine, Counts, counts, stranded_in, slot_at}
use Rattle.otel_batch.specs.SoundMachine.{IsSound}
use Rattle.otel_batch.specs.MovedSpans.{Keeps}
use Rattle.otel_batch.specs.RequestSteps.{ResourceRow}
use Rattle.otel_batch.specs.WorkerSteps.{TickRow}
use Rattle.otel_batch.specs.declared.machine.state.Message.{Message}
use Rattle.otel_batch.specs.declared.machine.state.Slot.TheVariants as slot
use Rattle.otel_batch.specs.declared.machine.state.Worker.{Worker}
use Rattle.otel_batch.specs.declared.machine.state.Worker.TheVariants as worker
use Rattle.otel_batch.specs.declared.machine.step.Outcome.{Outcome}
use Rattle.otel_batch.specs.declared.machine.step.Outcome.TheVariants as outcome
use Rattle.otel_batch.specs.declared.machine.step.Step.{Step}
use Rattle.otel_export.specs.declared.trace.export.SpanExporter.{Ghosts}
use Rattle.otel_batch.proofs.Silence.{run-stays_silent}
use Rattle.otel_batch.specs.WorkedOff.{WorksOff, is_idle_worker, next_of_worker}
use Rattle.otel_processors.specs.QueueRequests.{IsAtRest, queue_telling}
use Rattle.otel_processors.proofs.SteppingLemmas.{goes_runs}
use Rattle.otel_processors.proofs.WorkerRunLemmas.{goes_hands_on, goes_idle, hands_on_told, heard_in, idle_rests, rest_empty}

-- after a call the queue is at rest again, no span more is heard, and no drop is counted
pub record RestsAgain {E : Type 0} (calls : Ghosts E) (s t : Machine E) : Type 0 where
  pub rest : IsAtRest t
  pub heard : Tells (heard_in calls s) [] (heard_in calls t)
  pub dropped : t.control.dropped ≡ s.control.dropped

-- either test holds
either : (a b : Bool) → (a || b) ≡ true → (a ≡ true) ⊎ (b ≡ true)
either true b e = inl refl
either false b e = inr e

-- nothing is next: the producer has an answer, or the worker has nothing to do
done : (found : Bool) (y : Step) → (if found then None else Some y) ≡ None → found ≡ true
done true y e = refl
done false y e = absurd (let no : Some y ≡ None = e in cc)

pub over_is : (c : Control) → next_of_worker c ≡ None →
    (is_answered (slice_get c.slots 0) ≡ true) ⊎ (is_idle_worker c ≡ true)
over_is c e = either (is_answered (slice_get c.slots 0)) (is_idle_worker c) (done _ _ e)

module _ {E : Type 0} (calls : Ghosts E) where
  -- a run of the worker where the producer is idle
  pub idle_worked : (s : Machine E) (os : List Outcome) (t : Machine E) → IsSound (counts s) → IsSound (counts t) →
      s.control.slots ≡ slot.Idle ∷ [] → s.hand ≡ [] → (s.control.closed ≡ true → s.waiting ≡ []) →
      WorksOff calls next_of_worker s os t → RestsAgain calls s t × (t.control.closed ≡ s.control.closed)
  idle_worked s os t sound after idle empty none works =
      let left = goes_idle calls s works.steps os t sound idle works.goes in
      let slots : t.control.slots ≡ slot.Idle ∷ [] = left.slots ∙ idle in
      let rests = at_rest slots (over_is t.control works.over) in
      let emptied = rest_empty t after rests in
      let on = goes_hands_on calls s works.steps os t works.goes in (
        record {
          rest = record {
            slots = slots;
            worker = rests;
            hand = emptied;
            left = λ shut. still (sym left.closed ∙ shut);
          };
          heard = hands_on_told calls s t empty emptied on;
          dropped = on.dropped;
        },
        left.closed,
      )
    where
      still : s.control.closed ≡ true → t.waiting ≡ []
      still shut =
          let stays = run-stays_silent calls s works.steps os t sound
          (goes_runs calls next_of_worker s works.steps os t works.goes) shut in
          stays.waiting ∙ none shut

      at_rest : t.control.slots ≡ slot.Idle ∷ [] →
          (is_answered (slice_get t.control.slots 0) ≡ true) ⊎ (is_idle_worker t.control ≡ true) →
          is_ready t.control.worker || is_gone t.control.worker ≡ true
      at_rest slots (inl answered) =
          absurd (let no : is_answered (slice_get t.control.slots 0) ≡ false = rw slots refl in cc)
      at_rest slots (inr idle) = idle_rests t.control idle

  pub same_heard : (s t : Machine E) → Keeps s t → heard_in calls t ≡ heard_in calls s
  same_heard s t keeps = rw (keeps.exporter, keeps.waiting) refl

-- the worker is ready where the queue is at rest and open
pub ready_open : {E : Type 0} (s : Machine E) → IsSound (counts s) → IsAtRest s → s.control.closed ≡ false →
    s.control.worker ≡ worker.Ready
ready_open s sound rest runs = by_worker s.control.worker rest.worker (sym sound.awaited.gone ∙ runs)
  where
    by_worker : (w : Worker) → is_ready w || is_gone w ≡ true → is_gone w ≡ false → w ≡ worker.Ready
    by_worker worker.Ready h stays = refl
    by_worker worker.Gone h stays = absurd (cc)
    by_worker worker.Clearing h stays = absurd (cc)
    by_worker (worker.Loading y) h stays = absurd (cc)
    by_worker worker.Pulling h stays = absurd (cc)
    by_worker worker.Handing h stays = absurd (cc)
    by_worker (worker.Subtracting k) h stays = absurd (cc)
    by_worker worker.Finishing h stays = absurd (cc)
    by_worker (worker.Closing p) h stays = absurd (cc)

-- a producer that waits has its answer once the worker has nothing to do
pub has_answer : (s : Counts) → IsSound s → slot_waits (slot_at s 0) ≡ 1 → is_idle_worker s.control ≡ true → {A : Type 0}
    → A
has_answer s sound waits idle = by_worker s.control.worker refl (sound.awaited.each 0)
  where
    by_worker : {A : Type 0} (w : Worker) → s.control.worker ≡ w →
        sum_by (message_names 0) s.control.messages + worker_names 0 s.control.why s.control.worker
        ≡ slot_waits (slice_get s.control.slots 0) → A
    by_worker worker.Gone is each =
        let closed : s.control.closed ≡ true = sound.awaited.gone ∙ rw is refl in
        let none : sum_by (message_names 0) s.control.messages ≡ 0 = rw (sound.awaited.empty closed) refl in
        let rests : worker_names 0 s.control.why s.control.worker ≡ 0 = rw is refl in
        absurd (omega (arith, each, waits, none, rests))
    by_worker worker.Ready is each =
        let empty : (length s.control.messages == 0) ≡ true = rw is at idle in
        let none : sum_by (message_names 0) s.control.messages ≡ 0 = no_messages s.control.messages empty in
        let rests : worker_names 0 s.control.why s.control.worker ≡ 0 = rw is refl in
        absurd (omega (arith, each, waits, none, rests))
      where
        no_messages : (ms : List Message) → (length ms == 0) ≡ true → sum_by (message_names 0) ms ≡ 0
        no_messages [] e = refl
        no_messages (m ∷ ms) e = elim (eqb_tells (length (m ∷ ms)) 0) [
          | inl same ↦ absurd (omega (arith, same.1))
          | inr other ↦ absurd (let none = other.0 in cc)
        ]
    by_worker worker.Clearing is each = absurd (let wrong : false ≡ true = rw is at idle in cc)
    by_worker (worker.Loading y) is each = absurd (let wrong : false ≡ true = rw is at idle in cc)
    by_worker worker.Pulling is each = absurd (let wrong : false ≡ true = rw is at idle in cc)
    by_worker worker.Handing is each = absurd (let wrong : false ≡ true = rw is at idle in cc)
    by_worker (worker.Subtracting k) is each = absurd (let wrong : false ≡ true = rw is at idle in cc)
    by_worker worker.Finishing is each = absurd (let wrong : false ≡ true = rw is at idle in cc)
    by_worker (worker.Closing p) is each = absurd (let wrong : false ≡ true = rw is at idle in cc)

-- the timer starts a drain where the worker is ready
pub ticks : (s : Counts) (o : Outcome) (t : Counts) → s.control.worker ≡ worker.Ready → TickRow s o t →
    o ≡ outcome.Ticked
ticks s outcome.Ticked t is row = refl
ticks s outcome.NotEnabled t is row =
    absurd (let yes : is_ready s.control.worker ≡ true = rw is refl in let no = row.0 in cc)
ticks s _ t is row = absurd row

-- a queue that is closed and at rest left no span after
pub none_stranded : {E : Type 0} (s : Machine E) → IsAtRest s → s.control.closed ≡ true → stranded_in s ≡ Some 0
none_stranded s rest closed = rw (closed, rest.left closed) refl

module _ {E : Type 0} (calls : Ghosts E) where
  -- the timer's drain
  pub ticked_rests : (s m : Machine E) (os : List Outcome) (t : Machine E) → IsAtRest s → IsSound (counts m) →
      IsSound (counts t) → TickRow (counts s) outcome.Ticked (counts m) → Keeps s m →
      WorksOff calls next_of_worker m os t → RestsAgain calls s t × (t.control.closed ≡ s.control.closed)
  ticked_rests s m os t rest sound after row keeps works =
      let worked = idle_worked calls m os t sound after (ap (λ c. c.control.slots) row.1 ∙ rest.slots)
      (keeps.hand ∙ rest.hand)
      (λ shut. keeps.waiting ∙ rest.left (sym (ap (λ c. c.control.closed) row.1) ∙ shut)) works in
      let again = worked.0 in (
        record {
          rest = again.rest;
          heard = rw (← same_heard calls s m keeps) again.heard;
          dropped = again.dropped ∙ ap (λ c. c.control.dropped) row.1;
        },
        worked.1 ∙ ap (λ c. c.control.closed) row.1,
      )

  -- a resource moves no span, and leaves the queue at rest
  pub resource_rests : (s : Machine E) (resource : PlainResource) (o : Outcome) (t : Machine E) → IsAtRest s →
      ResourceRow (counts s) resource o (counts t) → Keeps s t →
      (queue_telling calls t ≡ queue_telling calls s) × IsAtRest t
  resource_rests s resource o t rest row keeps = by_outcome o row
    where
      told : t.control.dropped ≡ s.control.dropped → t.control.closed ≡ s.control.closed →
          queue_telling calls t ≡ queue_telling calls s
      told dropped closed = rw (keeps.exporter, keeps.waiting, dropped, closed) refl

      rests : t.control.slots ≡ s.control.slots → t.control.worker ≡ s.control.worker →
          t.control.closed ≡ s.control.closed → IsAtRest t
      rests slots worker closed = record {
        slots = slots ∙ rest.slots;
        worker = rw worker rest.worker;
        hand = keeps.hand ∙ rest.hand;
        left = λ shut. keeps.waiting ∙ rest.left (sym closed ∙ shut);
      }

      by_outcome : (k : Outcome) → ResourceRow (counts s) resource k (counts t) →
          (queue_telling calls t ≡ queue_telling calls s) × IsAtRest t
      by_outcome outcome.Closed row = (
        told (ap (λ c. c.control.dropped) row.1) (ap (λ c. c.control.closed) row.1),
        rests (ap (λ c. c.control.slots) row.1) (ap (λ c. c.control.worker) row.1)
            (ap (λ c. c.control.closed) row.1),
      )
      by_outcome outcome.Full row = (
        told (ap (λ c. c.control.dropped) row.2) (ap (λ c. c.control.closed) row.2),
        rests (ap (λ c. c.control.slots) row.2) (ap (λ c. c.control.worker) row.2)
            (ap (λ c. c.control.closed) row.2),
      )
      by_outcome outcome.Posted row = (
        told (ap (λ c. c.control.dropped) row.2) (ap (λ c. c.control.closed) row.2),
        rests (ap (λ c. c.control.slots) row.2) (ap (λ c. c.control.worker) row.2)
            (ap (λ c. c.control.closed) row.2),
      )
      by_outcome _ row = absurd row
