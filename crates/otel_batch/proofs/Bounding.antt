-- A drain of the batch queue ends after a bounded number of the worker's steps, and its batches have the right size.
use Rattle.std.proofs.Common.{◌≡◌, ◌⊎◌, inl, inr, ◌∙◌, ap, refl, suc, ℕ, ◌+◌, ◌-◌, ◌*◌, ◌<◌, ◌≤◌, ◌==◌, Bool, true, false, List, [], ◌∷◌, ◌++◌, length, Option, Err, take, drop, min, if◌then◌else◌, arith, sum}
use Rattle.std.proofs.lemmas.Bool.Decides.{eqb_tells}
use Rattle.otel_batch.specs.Workers.{worker_counts}
use Rattle.otel_batch.specs.MachineState.{Machine, Counts, Control, counts, batch_limit, put_slot}
use Rattle.otel_batch.specs.SoundMachine.{IsSound}
use Rattle.otel_batch.specs.WorkerSteps.{PullRow, HandOverRow, SubtractRow}
use Rattle.otel_batch.specs.DrainEnds.{FinishRow, FinishRowFor, end_of_drain}
use Rattle.otel_batch.specs.PermittedStep.{IsPermitted}
use Rattle.otel_export.specs.declared.error.OTelSdkError.{OTelSdkError}
use Rattle.otel_export.specs.declared.error.OTelSdkError.TheVariants.{OutOfMemory}
use Rattle.otel_batch.specs.declared.machine.state.Slot.TheVariants as slot
use Rattle.otel_batch.specs.declared.machine.state.Why.{Why}
use Rattle.otel_batch.specs.declared.machine.state.Why.TheVariants as why
use Rattle.otel_batch.specs.MachineRun.{Run, batch_sizes}
use Rattle.otel_batch.specs.Drains.{worker_steps, NoneFinishes, FitBatches, largest_batch, more_steps, BoundsDrains}
use Rattle.otel_batch.specs.declared.machine.state.Worker.TheVariants as worker
use Rattle.otel_batch.specs.declared.machine.step.Outcome.{Outcome}
use Rattle.otel_batch.specs.declared.machine.step.Outcome.TheVariants as outcome
use Rattle.otel_batch.specs.declared.machine.step.Step.{Step}
use Rattle.otel_batch.specs.declared.machine.step.Step.TheVariants as step
use Rattle.otel_export.specs.declared.trace.export.SpanExporter.{Ghosts}
use Rattle.otel_batch.proofs.TableFacts.{permitted-alone, permitted-leaves, handed_over-hands}
use Rattle.otel_batch.proofs.Runs.{run-splits}
use Rattle.otel_batch.proofs.Conserving.{sizes-first}
use Rattle.otel_batch.proofs.BusyLemmas.{handed, handed-rest, is_busy, take_busy, tick_busy, clear_busy, load_busy, close_busy}
use Rattle.otel_batch.proofs.Draining.{at_load}
use Rattle.otel_batch.proofs.FuelLemmas.{fuel_some, fuel_busy}
use Rattle.otel_batch.proofs.FuelStepLemmas.{InBound, IsExtra, bound_step}

-- no batch of a run is empty, or has more spans than the largest
largest_same : (s t : Control) → t.queue_size ≡ s.queue_size → t.batch_size ≡ s.batch_size →
    largest_batch t ≡ largest_batch s
largest_same s t q b = rw (q, b) refl

limit_within : (queue batch target done : ℕ) →
    batch_limit queue batch target done ≤ (if batch == 0 then queue else batch)
limit_within queue batch target done = elim (eqb_tells batch 0) [
  | inl none ↦ rw none.0 (omega arith)
  | inr some ↦ rw some.0 (omega arith)
]

fit_first : (s : Counts) (x : Step) (o : Outcome) (t : Counts) (ks : List ℕ) → IsSound s → IsPermitted s x o t →
    FitBatches (largest_batch s.control) ks → FitBatches (largest_batch s.control) (batch_sizes (o ∷ []) ++ ks)
fit_first s x (outcome.HandedOver k e) t ks sound row fit =
    let is = handed_over-hands s x k e t row in
    let most = limit_within s.control.queue_size s.control.batch_size s.control.target s.control.done in
    let some : 0 < s.hand = sound.drain.handing (rw is.0 refl) in
    let fits = sound.drain.hand_fits in
    let size = is.1 in
    (omega (arith, some, size), omega (arith, fits, most, size), fit)
fit_first s x _ t ks sound row fit = fit

pub run-fits : {E : Type 0} (calls : Ghosts E) (s : Machine E) (xs : List Step) (os : List Outcome) (t : Machine E) →
    IsSound (counts s) → Run calls s xs os t → FitBatches (largest_batch s.control) (batch_sizes os)
run-fits calls s [] [] t sound run = tt
run-fits calls s (x ∷ xs) (o ∷ os) t sound run =
    let leaves = permitted-leaves (counts s) x o (counts run.0) run.1.permitted in
    let rest = run-fits calls run.0 xs os t run.1.sound run.2 in
    let same = largest_same s.control run.0.control leaves.queue_size leaves.batch_size in
    rw (sizes-first o os)
    (fit_first (counts s) x o (counts run.0) (batch_sizes os) sound run.1.permitted (rw same at rest))
run-fits calls s [] (o ∷ os) t sound run = absurd run
run-fits calls s (x ∷ xs) [] t sound run = absurd run

pull_aimed : (s : Counts) (o : Outcome) (t : Counts) → PullRow s o t → t.control.target ≡ s.control.target
pull_aimed s outcome.Empty t row = ap (λ c. c.control.target) row.2
pull_aimed s outcome.NoMemory t row = ap (λ c. c.control.target) row.3
pull_aimed s outcome.Pulled t row = ap (λ c. c.control.target) row.2
pull_aimed s outcome.NotEnabled t row = ap (λ c. c.control.target) row.1
pull_aimed s _ t row = absurd row

hand_over_aimed : (s : Counts) (o : Outcome) (t : Counts) → HandOverRow s o t → t.control.target ≡ s.control.target
hand_over_aimed s (outcome.HandedOver k e) t row = ap (λ c. c.control.target) row.3
hand_over_aimed s outcome.NotEnabled t row = ap (λ c. c.control.target) row.1
hand_over_aimed s _ t row = absurd row

subtract_aimed : (s : Counts) (o : Outcome) (t : Counts) → SubtractRow s o t → t.control.target ≡ s.control.target
subtract_aimed s outcome.Subtracted t row = ap (λ c. c.control.target) row.2
subtract_aimed s outcome.NotEnabled t row = ap (λ c. c.control.target) row.1
subtract_aimed s _ t row = absurd row

finished-aimed : (y : Why) (s : Counts) (e : Option OTelSdkError) (t : Counts) → FinishRowFor y s e t →
    t.control.target ≡ s.control.target
finished-aimed why.Asked s e t row = ap (λ c. c.control.target) row.1
finished-aimed why.Timer s e t row = ap (λ c. c.control.target) row.1
finished-aimed (why.Flush p) s e t row = ap (λ c. c.control.target) row.1
finished-aimed (why.Shutdown p) s e t row = shut s.control.refused row.1
  where
    shut : (b : Bool) → t ≡ (if b
        then put_slot (end_of_drain s worker.Ready) p (slot.Answered (Err OutOfMemory))
        else end_of_drain s (worker.Closing p)) → t.control.target ≡ s.control.target
    shut true eq = ap (λ c. c.control.target) eq
    shut false eq = ap (λ c. c.control.target) eq

-- a finish leaves the target too
finish_aimed : (s : Counts) (o : Outcome) (t : Counts) → FinishRow s o t → t.control.target ≡ s.control.target
finish_aimed s (outcome.Finished e) t row = finished-aimed s.control.why s e t row.1
finish_aimed s outcome.NotEnabled t row = ap (λ c. c.control.target) row.1
finish_aimed s _ t row = absurd row

-- while the worker is in a drain its target stays
stays_aimed : (s : Counts) (x : Step) (o : Outcome) (t : Counts) → is_busy s.control.worker ≡ true →
    IsPermitted s x o t → t.control.target ≡ s.control.target
stays_aimed s (step.Offer p span) o t busy row = (permitted-alone s (step.Offer p span) o t refl row).target
stays_aimed s (step.Send p) o t busy row = (permitted-alone s (step.Send p) o t refl row).target
stays_aimed s (step.Undo p) o t busy row = (permitted-alone s (step.Undo p) o t refl row).target
stays_aimed s (step.Ask p) o t busy row = (permitted-alone s (step.Ask p) o t refl row).target
stays_aimed s (step.Post p) o t busy row = (permitted-alone s (step.Post p) o t refl row).target
stays_aimed s (step.Reset p) o t busy row = (permitted-alone s (step.Reset p) o t refl row).target
stays_aimed s (step.RequestFlush p) o t busy row = (permitted-alone s (step.RequestFlush p) o t refl row).target
stays_aimed s (step.RequestShutdown p) o t busy row = (permitted-alone s (step.RequestShutdown p) o t refl row).target
stays_aimed s (step.Collect p) o t busy row = (permitted-alone s (step.Collect p) o t refl row).target
stays_aimed s (step.PostResource resource) o t busy row = (permitted-alone s (step.PostResource resource) o t refl row).target
stays_aimed s step.Take o t busy row = ap (λ c. c.control.target) (take_busy s o t busy row).1
stays_aimed s step.Tick o t busy row = ap (λ c. c.control.target) (tick_busy s o t busy row).1
stays_aimed s step.Clear o t busy row = ap (λ c. c.control.target) (clear_busy s o t busy row).1
stays_aimed s step.Load o t busy row = ap (λ c. c.control.target) (load_busy s o t busy row).1
stays_aimed s step.Pull o t busy row = pull_aimed s o t row
stays_aimed s step.HandOver o t busy row = hand_over_aimed s o t row
stays_aimed s step.Subtract o t busy row = subtract_aimed s o t row
stays_aimed s step.Close o t busy row = ap (λ c. c.control.target) (close_busy s o t busy row).1
stays_aimed s step.Finish o t busy row = finish_aimed s o t row

-- what a batch may take more than is left, by the sizes
extra_is : (c d : Control) → d.queue_size ≡ c.queue_size → d.batch_size ≡ c.batch_size → (h w : ℕ) →
    IsExtra (more_steps c) (record { control = d; hand = h; waiting = w })
extra_is c d queue batch h w = elim (eqb_tells c.batch_size 0) [
  | inl none ↦ let is : more_steps c ≡ c.queue_size = rw none.0 refl in
      record { none = λ e. omega (arith, is, queue); some = λ e. absurd (omega (arith, e, batch, none.1)) }
  | inr some ↦ let is : more_steps c ≡ 0 = rw some.0 refl in
      record { none = λ e. absurd (omega (arith, e, batch, some.1)); some = λ e. is }
]

-- the fuel after a load
load_bound : (extra target : ℕ) (s : Counts) →
    (s.control.worker ≡ worker.Pulling) ⊎ (s.control.worker ≡ worker.Finishing) → s.control.target ≡ target →
    s.control.done ≡ 0 → s.hand ≡ 0 → InBound extra (4 * target + 1 + extra) 0 s
load_bound extra target s starts aim done hand = elim starts [
  | inl at ↦ record {
    fuel_is = rw (at, aim, done, hand)
        (λ z. omega arith, λ z. absurd (omega (arith, z)), λ z. absurd (omega (arith, z)));
    given_is = inl (rw at refl, rw (at, done) refl);
  }
  | inr at ↦ record { fuel_is = rw at (omega arith); given_is = inr (at, λ _. omega arith) }
]

-- the worker's steps one by one
steps-first : (x : Step) (o : Outcome) (xs : List Step) (os : List Outcome) →
    worker_steps (x ∷ xs) (o ∷ os) ≡ worker_steps (x ∷ []) (o ∷ []) + worker_steps xs os
steps-first x o xs os = omega arith

pub none-first : (o : Outcome) (os : List Outcome) → NoneFinishes (o ∷ os) → NoneFinishes (o ∷ []) × NoneFinishes os
none-first (outcome.Finished e) os on = absurd on
none-first _ os on = (tt, on)

given_fits : (extra fuel given : ℕ) (s : Counts) → IsSound s → InBound extra fuel given s →
    0 < s.control.batch_size → given ≤ s.control.target
given_fits extra fuel given s sound h some = elim h.given_is [
  | inl g ↦
      let on : s.control.done < s.control.target = sound.drain.on g.0 in
      let fits = sound.drain.subtracting_fits in
      let is = g.1 in
      elim (eqb_tells s.control.batch_size 0) [
        | inl none ↦ absurd (omega (arith, none.1, some))
        | inr more ↦
            let least : worker_counts s.control.worker ≤ min s.control.batch_size (s.control.target - s.control.done) =
            rw more.0 at fits in
            omega (arith, is, least, on)
      ]
  | inr f ↦ f.1 some
]

module _ {E : Type 0} (calls : Ghosts E) where
  -- a stretch of a drain in which it did not finish
  bound_run : (extra fuel given target : ℕ) (s : Machine E) (xs : List Step) (os : List Outcome) (t : Machine E) →
      IsSound (counts s) → IsExtra extra (counts s) → s.control.target ≡ target → NoneFinishes os →
      Run calls s xs os t → InBound extra fuel given (counts s) →
      (worker_steps xs os + 1 ≤ fuel)
      × (0 < s.control.batch_size → given + sum (batch_sizes os) ≤ target)
  bound_run extra fuel given target s [] [] t sound is aim on run h = (
    let some = fuel_some _ _ _ _ _ h.fuel_is in omega (arith, some),
    λ size. let fits = given_fits extra fuel given (counts s) sound h size in omega (arith, fits, aim),
  )
  bound_run extra fuel given target s (x ∷ xs) (o ∷ os) t sound is aim on run h =
      let next = run.0 in
      let row = run.1.permitted in
      let leaves = permitted-leaves (counts s) x o (counts next) row in
      let batch = leaves.batch_size in
      let queue = leaves.queue_size in
      let is' : IsExtra extra (counts next) = record {
        none = λ e. let z : s.control.batch_size ≡ 0 = omega (arith, e, batch) in
            let q = is.none z in omega (arith, q, queue);
        some = λ e. is.some (omega (arith, e, batch));
      } in
      let first = none-first o os on in
      let burns = bound_step extra fuel given (counts s) x o (counts next) sound run.1.sound is' batch first.0 row h in
      let same = stays_aimed (counts s) x o (counts next) (fuel_busy _ _ _ _ _ h.fuel_is) row in
      let rest = bound_run extra burns.left (given + handed o) target next xs os t run.1.sound is'
      (same ∙ aim) first.1 run.2 burns.bound in
      let steps = steps-first x o xs os in
      let sizes = handed-rest o os in
      let left = burns.burnt in
      let fewer = rest.0 in (
        omega (arith, steps, left, fewer),
        λ some. let more = rest.1 (omega (arith, some, batch)) in omega (arith, sizes, more),
      )
  bound_run extra fuel given target s [] (o ∷ os) t sound is aim on run h = absurd run
  bound_run extra fuel given target s (x ∷ xs) [] t sound is aim on run h = absurd run

  -- every drain of a run is bounded
  pub run-bounds : (s : Machine E) (xs : List Step) (os : List Outcome) (t : Machine E) → IsSound (counts s) →
      Run calls s xs os t → BoundsDrains s.control xs os
  run-bounds s xs os t sound run n m target e on =
      let at = at_load calls n s xs os t target sound run e in
      let parts = run-splits calls at.load (drop (suc n) xs) (drop (suc n) os) t m at.after in
      let extra : ℕ = more_steps s.control in
      let batch = at.batch_same in
      let queue = at.queue_same in
      let is : IsExtra extra (counts at.load) = extra_is s.control at.load.control queue batch
      (length at.load.hand) (length at.load.waiting) in
      let start = load_bound extra target (counts at.load) at.start.starts at.start.target_is at.start.done_is at.start.hand_is in
      let all = bound_run extra (4 * target + 1 + extra) 0 target at.load (take m (drop (suc n) xs))
      (take m (drop (suc n) os)) parts.0 at.sound is at.start.target_is on parts.1 start in
      let fewer = all.0 in
      record {
        steps = omega (arith, fewer);
        handed = λ some. let fits = all.1 (omega (arith, some, batch)) in omega (arith, fits);
      }
