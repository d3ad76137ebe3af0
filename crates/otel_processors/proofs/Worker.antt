-- The worker's next step is enabled and finds something to do, so that its work comes to an end.
use Rattle.std.proofs.Common.{◌≡◌, ◌≢◌, inl, inr, refl, ap, ◌∙◌, ℕ, ◌<◌, ◌==◌, ◌||◌, ◌&&◌, Bool, true, false, List, [], ◌∷◌, Some, None, length, slice_get, if◌then◌else◌, arith}
use Rattle.std.proofs.lemmas.Bool.Decides.{eqb_tells}
use Rattle.otel_batch.specs.Slots.{is_answered}
use Rattle.otel_batch.specs.Workers.{is_ready, is_gone}
use Rattle.otel_batch.specs.MachineState.{Control, Machine, Counts, counts}
use Rattle.otel_batch.specs.MachineRun.{IsStep}
use Rattle.otel_batch.specs.PermittedStep.{IsPermitted}
use Rattle.otel_batch.specs.GoingOn.{is_enabled, next_step}
use Rattle.otel_batch.specs.Drains.{is_workers, AreWorkers}
use Rattle.otel_batch.specs.WorkLeft.{is_work, work_left}
use Rattle.otel_batch.specs.declared.machine.state.Worker.{Worker}
use Rattle.otel_batch.specs.declared.machine.state.Worker.TheVariants as worker
use Rattle.otel_batch.specs.declared.machine.step.Outcome.{Outcome}
use Rattle.otel_batch.specs.declared.machine.step.Outcome.TheVariants as outcome
use Rattle.otel_batch.specs.declared.machine.step.Step.{Step}
use Rattle.otel_export.specs.declared.trace.export.SpanExporter.{Ghosts}
use Rattle.otel_batch.proofs.Working.{permitted-lessens}
use Rattle.otel_batch.specs.WorkedOff.{GoesBy, is_idle_worker, next_of_worker}

-- either of two tests fails where both do
pub neither : (a b : Bool) → (a || b) ≡ false → (a ≡ false) × (b ≡ false)
neither true b e = absurd (cc)
neither false b e = (refl, e)

-- what is next where there is something next
some_next : (done : Bool) (y x : Step) → (if done then None else Some y) ≡ Some x → (done ≡ false) × (x ≡ y)
some_next true y x e = absurd (let none : None ≡ Some x = e in cc)
some_next false y x e = (refl, let some : Some y ≡ Some x = e in cc)

-- the worker has a next step: the producer has no answer, the worker is not gone, and where it is ready there is a
-- message
pub record HasNext (c : Control) (x : Step) : Type 0 where
  pub unanswered : is_answered (slice_get c.slots 0) ≡ false
  pub stays : is_gone c.worker ≡ false
  pub message : is_ready c.worker ≡ true → length c.messages ≢ 0
  pub is : x ≡ next_step c.worker

busy : (ready empty : Bool) → (ready && empty) ≡ false → ready ≡ true → empty ≡ false
busy true empty e r = e
busy false empty e r = absurd (cc)

not_empty : (n : ℕ) → (n == 0) ≡ false → n ≢ 0
not_empty n e is = elim (eqb_tells n 0) [ inl same ↦ (let yes = same.0 in cc) | inr other ↦ other.1 is ]

pub has_next : (c : Control) (x : Step) → next_of_worker c ≡ Some x → HasNext c x
has_next c x e =
    let some = some_next (is_answered (slice_get c.slots 0) || is_idle_worker c) (next_step c.worker) x e in
    let runs = neither (is_answered (slice_get c.slots 0)) (is_idle_worker c) some.0 in
    let goes = neither (is_gone c.worker) (is_ready c.worker && length c.messages == 0) runs.1 in
    record {
      unanswered = runs.0;
      stays = goes.0;
      message = λ r. not_empty (length c.messages) (busy (is_ready c.worker) (length c.messages == 0) goes.1 r);
      is = some.1;
    }

pub is_workers_next : (w : Worker) → is_workers (next_step w) ≡ true
is_workers_next worker.Ready = refl
is_workers_next worker.Clearing = refl
is_workers_next (worker.Loading y) = refl
is_workers_next worker.Pulling = refl
is_workers_next worker.Handing = refl
is_workers_next (worker.Subtracting k) = refl
is_workers_next worker.Finishing = refl
is_workers_next (worker.Closing p) = refl
is_workers_next worker.Gone = refl

-- only a take finds nothing, and none of these steps is the timer's
finds_work : (s : Counts) (w : Worker) (o : Outcome) (t : Counts) → IsPermitted s (next_step w) o t →
    is_enabled o ≡ true → (is_ready w ≡ true → length s.control.messages ≢ 0) → is_gone w ≡ false → is_work o ≡ true
finds_work s w outcome.NotEnabled t row on some stays = absurd (cc)
finds_work s worker.Ready outcome.Nothing t row on some stays = absurd (some refl (ap length row.1))
finds_work s worker.Clearing outcome.Nothing t row on some stays = absurd row
finds_work s (worker.Loading y) outcome.Nothing t row on some stays = absurd row
finds_work s worker.Pulling outcome.Nothing t row on some stays = absurd row
finds_work s worker.Handing outcome.Nothing t row on some stays = absurd row
finds_work s (worker.Subtracting k) outcome.Nothing t row on some stays = absurd row
finds_work s worker.Finishing outcome.Nothing t row on some stays = absurd row
finds_work s (worker.Closing p) outcome.Nothing t row on some stays = absurd row
finds_work s worker.Gone outcome.Nothing t row on some stays = absurd (cc)
finds_work s worker.Ready outcome.Ticked t row on some stays = absurd row
finds_work s worker.Clearing outcome.Ticked t row on some stays = absurd row
finds_work s (worker.Loading y) outcome.Ticked t row on some stays = absurd row
finds_work s worker.Pulling outcome.Ticked t row on some stays = absurd row
finds_work s worker.Handing outcome.Ticked t row on some stays = absurd row
finds_work s (worker.Subtracting k) outcome.Ticked t row on some stays = absurd row
finds_work s worker.Finishing outcome.Ticked t row on some stays = absurd row
finds_work s (worker.Closing p) outcome.Ticked t row on some stays = absurd row
finds_work s worker.Gone outcome.Ticked t row on some stays = absurd (cc)
finds_work s w _ t row on some stays = refl

module _ {E : Type 0} (calls : Ghosts E) where
  -- the next step is permitted, as a step of the worker's
  pub next_permitted : (s : Machine E) (x : Step) (o : Outcome) (t : Machine E) → HasNext s.control x →
      IsStep calls s x o t → IsPermitted (counts s) (next_step s.control.worker) o (counts t)
  next_permitted s x o t has steps = rw has.is at steps.permitted

  -- it lessens what is left
  pub next_lessens : (s : Machine E) (x : Step) (o : Outcome) (t : Machine E) → next_of_worker s.control ≡ Some x →
      IsStep calls s x o t → work_left (counts t) < work_left (counts s)
  next_lessens s x o t next steps =
      let has = has_next s.control x next in
      permitted-lessens (counts s) (counts t) (next_step s.control.worker) o (next_permitted s x o t has steps)
      (is_workers_next s.control.worker)
      (finds_work (counts s) s.control.worker o (counts t) (next_permitted s x o t has steps)
      (steps.goes_on has.is has.stays) has.message has.stays)

  -- so does a run of such steps
  pub goes_lessens : (s : Machine E) (x : Step) (xs : List Step) (o : Outcome) (os : List Outcome) (t : Machine E) →
      GoesBy calls next_of_worker s (x ∷ xs) (o ∷ os) t → work_left (counts t) < work_left (counts s)
  goes_lessens s x [] o [] t goes = rw goes.3 (next_lessens s x o goes.1 goes.0 goes.2)
  goes_lessens s x (y ∷ ys) o (p ∷ ps) t goes =
      let first = next_lessens s x o goes.1 goes.0 goes.2 in
      let rest = goes_lessens goes.1 y ys p ps t goes.3 in
      omega arith
  goes_lessens s x [] o (p ∷ ps) t goes = absurd goes.3
  goes_lessens s x (y ∷ ys) o [] t goes = absurd goes.3

  -- all steps are the worker's
  pub goes_workers : (s : Machine E) (xs : List Step) (os : List Outcome) (t : Machine E) →
      GoesBy calls next_of_worker s xs os t → AreWorkers xs
  goes_workers s [] [] t goes = tt
  goes_workers s (x ∷ xs) (o ∷ os) t goes =
      let has = has_next s.control x goes.0 in
      (ap is_workers has.is ∙ is_workers_next s.control.worker, goes_workers goes.1 xs os t goes.3)
  goes_workers s [] (o ∷ os) t goes = absurd goes
  goes_workers s (x ∷ xs) [] t goes = absurd goes
