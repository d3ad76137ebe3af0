-- Each step of the worker in a drain of the batch queue burns what its end was given.
use Rattle.std.proofs.Common.{◌≡◌, ◌⊎◌, inl, inr, ◌∙◌, ap, sym, refl, ℕ, ◌+◌, ◌-◌, ◌<◌, ◌≤◌, Bool, true, false, [], ◌∷◌, min, nat_lt, if◌then◌else◌, arith, sum}
use Rattle.std.proofs.lemmas.Bool.Decides.{eqb_tells}
use Rattle.otel_batch.specs.Workers.{is_draining, worker_counts}
use Rattle.otel_batch.specs.MachineState.{Counts, batch_limit, limit_of}
use Rattle.otel_batch.specs.SoundMachine.{IsSound}
use Rattle.otel_batch.specs.WorkerSteps.{PullRow, HandOverRow, SubtractRow}
use Rattle.otel_batch.specs.DrainEnds.{FinishRow}
use Rattle.otel_batch.specs.PermittedStep.{IsPermitted}
use Rattle.otel_batch.specs.Drains.{worker_steps, NoneFinishes}
use Rattle.otel_batch.specs.declared.machine.state.Worker.TheVariants as worker
use Rattle.otel_batch.specs.declared.machine.step.Outcome.{Outcome}
use Rattle.otel_batch.specs.declared.machine.step.Outcome.TheVariants as outcome
use Rattle.otel_batch.specs.declared.machine.step.Step.{Step}
use Rattle.otel_batch.specs.declared.machine.step.Step.TheVariants as step
use Rattle.otel_batch.proofs.TableFacts.{permitted-alone}
use Rattle.otel_batch.proofs.NumberLemmas.{ltb_tells}
use Rattle.otel_batch.proofs.BusyLemmas.{handed, take_busy, tick_busy, clear_busy, load_busy, close_busy, StaysInDrain, stays_alone, rests}
use Rattle.otel_batch.proofs.FuelLemmas.{HasFuel, fuel_some, pulled_fuel, emptied_fuel, handed_fuel, fuel_busy}

-- a drain that has handed over so many, and ends in this number of steps
pub record InBound (extra fuel given : ℕ) (m : Counts) : Type 0 where
  pub fuel_is : HasFuel m.control.worker (m.control.target - m.control.done) m.hand extra fuel
  pub given_is : (is_draining m.control.worker ≡ true) × (given ≡ m.control.done + worker_counts m.control.worker)
      ⊎ (m.control.worker ≡ worker.Finishing) × (0 < m.control.batch_size → given ≤ m.control.target)

-- what a batch may take more than is left: nothing, where batches have a size
pub record IsExtra (extra : ℕ) (s : Counts) : Type 0 where
  pub none : s.control.batch_size ≡ 0 → extra ≡ s.control.queue_size
  pub some : 0 < s.control.batch_size → extra ≡ 0

-- what is left of the fuel after a step
pub record Burns (x : Step) (o : Outcome) (extra fuel given : ℕ) (t : Counts) : Type 0 where
  pub left : ℕ
  pub burnt : left + worker_steps (x ∷ []) (o ∷ []) ≤ fuel
  pub bound : InBound extra left given t

stays_bound : (extra fuel given : ℕ) (x : Step) (o : Outcome) (s t : Counts) → StaysInDrain x o s t →
    t.control.batch_size ≡ s.control.batch_size → InBound extra fuel given s →
    Burns x o extra fuel (given + handed o) t
stays_bound extra fuel given x o s t stays batch h =
    let none : handed o ≡ 0 = ap sum stays.quiet in
    let same : given + handed o ≡ given = omega (arith, none) in
    let free = stays.free in
    record {
      left = fuel;
      burnt = omega (arith, free);
      bound = rw same (record {
        fuel_is = rw (stays.worker_same, stays.target_same, stays.done_same, stays.hand_same) h.fuel_is;
        given_is = rw (stays.worker_same, stays.target_same, stays.done_same, batch) h.given_is;
      });
    }

-- a batch takes no more than is left, or than what it may take more
hand_room : (extra : ℕ) (s : Counts) → IsExtra extra s → IsSound s →
    (s.hand ≤ extra) ⊎ (s.hand ≤ s.control.target - s.control.done)
hand_room extra s is sound =
    let fits = sound.drain.hand_fits in
    elim (eqb_tells s.control.batch_size 0) [
      | inl none ↦ inl (let h : s.hand ≤ s.control.queue_size = rw none.0 at fits in
          let e = is.none none.1 in omega (arith, h, e))
      | inr some ↦ inr (let h : s.hand ≤ min s.control.batch_size (s.control.target - s.control.done) = rw some.0 at fits in
          omega (arith, h))
    ]

pull_bound : (extra fuel given : ℕ) (s : Counts) (o : Outcome) (t : Counts) → IsSound s → IsSound t → IsExtra extra t →
    t.control.batch_size ≡ s.control.batch_size → PullRow s o t → InBound extra fuel given s →
    Burns step.Pull o extra fuel (given + handed o) t
pull_bound extra fuel given s outcome.Empty t sound sound' is batch row h =
    let left : ℕ = s.control.target - s.control.done in
    let on : s.control.done < s.control.target = sound.drain.on (rw row.0 refl) in
    let has : HasFuel worker.Pulling left s.hand extra fuel = rw row.0 at h.fuel_is in
    let given_is : given ≡ s.control.done + 0 = elim h.given_is [
      | inl g ↦ rw row.0 at g.1
      | inr f ↦ absurd (let no : worker.Pulling ≡ worker.Finishing = sym row.0 ∙ f.0 in cc)
    ] in
    let to = ap (λ c. c.control.worker) row.2 in
    let hand : t.hand ≡ s.hand = ap (λ c. c.hand) row.2 in
    let done : t.control.done ≡ s.control.done = ap (λ c. c.control.done) row.2 in
    let target : t.control.target ≡ s.control.target = ap (λ c. c.control.target) row.2 in
    elim (eqb_tells s.hand 0) [
      | inl none ↦
          let at : t.control.worker ≡ worker.Finishing = rw none.0 at to in
          let f = has.0 none.1 in
          record {
            left = fuel - 1;
            burnt = omega (arith, f);
            bound = record {
              fuel_is = rw at (omega (arith, f, on));
              given_is = inr (at, λ _. omega (arith, given_is, on, target));
            };
          }
      | inr some ↦
          let at : t.control.worker ≡ worker.Handing = rw some.0 at to in
          let f = fuel_some worker.Pulling left s.hand extra fuel has in
          record {
            left = fuel - 1;
            burnt = omega (arith, f);
            bound = record {
              fuel_is = rw (at, target, done, hand) (emptied_fuel left s.hand extra fuel has (omega (arith, some.1)));
              given_is = inl (rw at refl, rw (at, done) (omega (arith, given_is)));
            };
          }
    ]
pull_bound extra fuel given s outcome.NoMemory t sound sound' is batch row h =
    let left : ℕ = s.control.target - s.control.done in
    let on : s.control.done < s.control.target = sound.drain.on (rw row.0 refl) in
    let has : HasFuel worker.Pulling left s.hand extra fuel = rw row.0 at h.fuel_is in
    let given_is : given ≡ s.control.done + 0 = elim h.given_is [
      | inl g ↦ rw row.0 at g.1
      | inr f ↦ absurd (let no : worker.Pulling ≡ worker.Finishing = sym row.0 ∙ f.0 in cc)
    ] in
    let at : t.control.worker ≡ worker.Finishing = ap (λ c. c.control.worker) row.3 in
    let target : t.control.target ≡ s.control.target = ap (λ c. c.control.target) row.3 in
    let f = has.0 row.2 in
    record {
      left = fuel - 1;
      burnt = omega (arith, f);
      bound = record {
        fuel_is = rw at (omega (arith, f, on));
        given_is = inr (at, λ _. omega (arith, given_is, on, target));
      };
    }
pull_bound extra fuel given s outcome.Pulled t sound sound' is batch row h =
    let left : ℕ = s.control.target - s.control.done in
    let on : s.control.done < s.control.target = sound.drain.on (rw row.0 refl) in
    let has : HasFuel worker.Pulling left s.hand extra fuel = rw row.0 at h.fuel_is in
    let given_is : given ≡ s.control.done + 0 = elim h.given_is [
      | inl g ↦ rw row.0 at g.1
      | inr f ↦ absurd (let no : worker.Pulling ≡ worker.Finishing = sym row.0 ∙ f.0 in cc)
    ] in
    let to = ap (λ c. c.control.worker) row.2 in
    let hand : t.hand ≡ s.hand + 1 = ap (λ c. c.hand) row.2 in
    let done : t.control.done ≡ s.control.done = ap (λ c. c.control.done) row.2 in
    let target : t.control.target ≡ s.control.target = ap (λ c. c.control.target) row.2 in
    let room : (s.hand + 1 ≤ extra) ⊎ (s.hand + 1 ≤ left) = elim (hand_room extra t is sound') [
      | inl fits ↦ inl (omega (arith, fits, hand))
      | inr fits ↦ inr (omega (arith, fits, hand, done, target))
    ] in
    let f = fuel_some worker.Pulling left s.hand extra fuel has in
    let free = none (nat_lt (s.hand + 1) (limit_of s.control)) in
    record {
      left = fuel - 1;
      burnt = omega (arith, f);
      bound = record {
        fuel_is = rw (to, target, done, hand)
            (pulled_fuel left s.hand extra fuel has (omega (arith, on)) room _);
        given_is = inl (rw to (draining _), rw (to, done) (omega (arith, given_is, free)));
      };
    }
  where
    draining : (b : Bool) → is_draining (if b then worker.Pulling else worker.Handing) ≡ true
    draining true = refl
    draining false = refl

    none : (b : Bool) → worker_counts (if b then worker.Pulling else worker.Handing) ≡ 0
    none true = refl
    none false = refl
pull_bound extra fuel given s outcome.NotEnabled t sound sound' is batch row h =
    stays_bound extra fuel given step.Pull outcome.NotEnabled s t
    (rests step.Pull outcome.NotEnabled s t (refl, row.1)) batch h
pull_bound extra fuel given s _ t sound sound' is batch row h = absurd row

hand_over_bound : (extra fuel given : ℕ) (s : Counts) (o : Outcome) (t : Counts) →
    t.control.batch_size ≡ s.control.batch_size → HandOverRow s o t → InBound extra fuel given s →
    Burns step.HandOver o extra fuel (given + handed o) t
hand_over_bound extra fuel given s (outcome.HandedOver k e) t batch row h =
    let left : ℕ = s.control.target - s.control.done in
    let has : HasFuel worker.Handing left s.hand extra fuel = rw row.0 at h.fuel_is in
    let given_is : given ≡ s.control.done + 0 = elim h.given_is [
      | inl g ↦ rw row.0 at g.1
      | inr f ↦ absurd (let no : worker.Handing ≡ worker.Finishing = sym row.0 ∙ f.0 in cc)
    ] in
    let at : t.control.worker ≡ worker.Subtracting k = ap (λ c. c.control.worker) row.3 in
    let done : t.control.done ≡ s.control.done = ap (λ c. c.control.done) row.3 in
    let target : t.control.target ≡ s.control.target = ap (λ c. c.control.target) row.3 in
    let f = fuel_some worker.Handing left s.hand extra fuel has in
    record {
      left = fuel - 1;
      burnt = omega (arith, f);
      bound = record {
        fuel_is = rw (at, target, done) (handed_fuel left s.hand k extra fuel has row.1);
        given_is = inl (rw at refl, rw (at, done) (omega (arith, given_is)));
      };
    }
hand_over_bound extra fuel given s outcome.NotEnabled t batch row h =
    stays_bound extra fuel given step.HandOver outcome.NotEnabled s t
    (rests step.HandOver outcome.NotEnabled s t (refl, row.1)) batch h
hand_over_bound extra fuel given s _ t batch row h = absurd row

-- where batches have a size, what is being subtracted is no more than is left
subtracts_within : (s : Counts) (k : ℕ) → IsSound s → s.control.worker ≡ worker.Subtracting k →
    0 < s.control.batch_size → k ≤ s.control.target - s.control.done
subtracts_within s k sound at some =
    let fits : k ≤ batch_limit s.control.queue_size s.control.batch_size s.control.target s.control.done =
    rw at at sound.drain.subtracting_fits in
    elim (eqb_tells s.control.batch_size 0) [
      | inl none ↦ absurd (omega (arith, none.1, some))
      | inr more ↦ let h : k ≤ min s.control.batch_size (s.control.target - s.control.done) = rw more.0 at fits in
          omega (arith, h)
    ]

subtract_bound : (extra fuel given : ℕ) (s : Counts) (o : Outcome) (t : Counts) → IsSound s →
    t.control.batch_size ≡ s.control.batch_size → SubtractRow s o t → InBound extra fuel given s →
    Burns step.Subtract o extra fuel (given + handed o) t
subtract_bound extra fuel given s outcome.Subtracted t sound batch row h =
    let k = row.0 in
    let left : ℕ = s.control.target - s.control.done in
    let on : s.control.done < s.control.target = sound.drain.on (rw row.1 refl) in
    let has : HasFuel (worker.Subtracting k) left s.hand extra fuel = rw row.1 at h.fuel_is in
    let given_is : given ≡ s.control.done + k = elim h.given_is [
      | inl g ↦ rw row.1 at g.1
      | inr f ↦ absurd (let no : worker.Subtracting k ≡ worker.Finishing = sym row.1 ∙ f.0 in cc)
    ] in
    let to = ap (λ c. c.control.worker) row.2 in
    let none : s.hand ≡ 0 = sound.drain.hand_empty (rw row.1 refl) in
    let hand : t.hand ≡ 0 = ap (λ c. c.hand) row.2 ∙ none in
    let done : t.control.done ≡ s.control.done + k = ap (λ c. c.control.done) row.2 in
    let target : t.control.target ≡ s.control.target = ap (λ c. c.control.target) row.2 in
    let f = fuel_some (worker.Subtracting k) left s.hand extra fuel has in
    elim (ltb_tells (s.control.done + k) s.control.target) [
      | inl below ↦
          let at : t.control.worker ≡ worker.Pulling = rw below.0 at to in
          let enough = has.0 (omega (arith, below.1)) in
          record {
            left = fuel - 1;
            burnt = omega (arith, f);
            bound = record {
              fuel_is = rw (at, target, done, hand) (
                λ _. omega (arith, enough),
                λ z. absurd (omega (arith, z)),
                λ z. absurd (omega (arith, z)),
              );
              given_is = inl (rw at refl, rw (at, done) (omega (arith, given_is)));
            };
          }
      | inr reached ↦
          let at : t.control.worker ≡ worker.Finishing = rw reached.0 at to in
          let enough = has.1 (omega (arith, reached.1)) in
          record {
            left = fuel - 1;
            burnt = omega (arith, f);
            bound = record {
              fuel_is = rw at (omega (arith, enough));
              given_is = inr (
                at,
                λ some. let within = subtracts_within s k sound row.1 (omega (arith, some, batch)) in
                    omega (arith, given_is, within, on, target),
              );
            };
          }
    ]
subtract_bound extra fuel given s outcome.NotEnabled t sound batch row h =
    stays_bound extra fuel given step.Subtract outcome.NotEnabled s t
    (rests step.Subtract outcome.NotEnabled s t (refl, row.1)) batch h
subtract_bound extra fuel given s _ t sound batch row h = absurd row

finish_bound : (extra fuel given : ℕ) (s : Counts) (o : Outcome) (t : Counts) →
    t.control.batch_size ≡ s.control.batch_size → NoneFinishes (o ∷ []) → FinishRow s o t → InBound extra fuel given s →
    Burns step.Finish o extra fuel (given + handed o) t
finish_bound extra fuel given s (outcome.Finished e) t batch on row h = absurd on
finish_bound extra fuel given s outcome.NotEnabled t batch on row h =
    stays_bound extra fuel given step.Finish outcome.NotEnabled s t
    (rests step.Finish outcome.NotEnabled s t (refl, row.1)) batch h
finish_bound extra fuel given s _ t batch on row h = absurd row

-- one step of a drain burns its fuel
pub bound_step : (extra fuel given : ℕ) (s : Counts) (x : Step) (o : Outcome) (t : Counts) → IsSound s → IsSound t →
    IsExtra extra t → t.control.batch_size ≡ s.control.batch_size → NoneFinishes (o ∷ []) → IsPermitted s x o t →
    InBound extra fuel given s → Burns x o extra fuel (given + handed o) t
bound_step extra fuel given s (step.Offer p span) o t sound sound' is batch on row h = stays_bound extra fuel given (step.Offer p span) o s t
    (stays_alone (step.Offer p span) o s t refl (permitted-alone s (step.Offer p span) o t refl row)) batch h
bound_step extra fuel given s (step.Send p) o t sound sound' is batch on row h = stays_bound extra fuel given (step.Send p) o s t
    (stays_alone (step.Send p) o s t refl (permitted-alone s (step.Send p) o t refl row)) batch h
bound_step extra fuel given s (step.Undo p) o t sound sound' is batch on row h = stays_bound extra fuel given (step.Undo p) o s t
    (stays_alone (step.Undo p) o s t refl (permitted-alone s (step.Undo p) o t refl row)) batch h
bound_step extra fuel given s (step.Ask p) o t sound sound' is batch on row h = stays_bound extra fuel given (step.Ask p) o s t
    (stays_alone (step.Ask p) o s t refl (permitted-alone s (step.Ask p) o t refl row)) batch h
bound_step extra fuel given s (step.Post p) o t sound sound' is batch on row h = stays_bound extra fuel given (step.Post p) o s t
    (stays_alone (step.Post p) o s t refl (permitted-alone s (step.Post p) o t refl row)) batch h
bound_step extra fuel given s (step.Reset p) o t sound sound' is batch on row h = stays_bound extra fuel given (step.Reset p) o s t
    (stays_alone (step.Reset p) o s t refl (permitted-alone s (step.Reset p) o t refl row)) batch h
bound_step extra fuel given s (step.RequestFlush p) o t sound sound' is batch on row h = stays_bound extra fuel given (step.RequestFlush p) o s t
    (stays_alone (step.RequestFlush p) o s t refl (permitted-alone s (step.RequestFlush p) o t refl row)) batch h
bound_step extra fuel given s (step.RequestShutdown p) o t sound sound' is batch on row h = stays_bound extra fuel given (step.RequestShutdown p) o s t
    (stays_alone (step.RequestShutdown p) o s t refl (permitted-alone s (step.RequestShutdown p) o t refl row)) batch h
bound_step extra fuel given s (step.Collect p) o t sound sound' is batch on row h = stays_bound extra fuel given (step.Collect p) o s t
    (stays_alone (step.Collect p) o s t refl (permitted-alone s (step.Collect p) o t refl row)) batch h
bound_step extra fuel given s (step.PostResource resource) o t sound sound' is batch on row h = stays_bound extra fuel given (step.PostResource resource) o s t
    (stays_alone (step.PostResource resource) o s t refl (permitted-alone s (step.PostResource resource) o t refl row)) batch h
bound_step extra fuel given s step.Take o t sound sound' is batch on row h = stays_bound extra fuel given step.Take o s t
    (rests step.Take o s t (take_busy s o t (fuel_busy _ _ _ _ _ h.fuel_is) row)) batch h
bound_step extra fuel given s step.Tick o t sound sound' is batch on row h = stays_bound extra fuel given step.Tick o s t
    (rests step.Tick o s t (tick_busy s o t (fuel_busy _ _ _ _ _ h.fuel_is) row)) batch h
bound_step extra fuel given s step.Clear o t sound sound' is batch on row h = stays_bound extra fuel given step.Clear o s t
    (rests step.Clear o s t (clear_busy s o t (fuel_busy _ _ _ _ _ h.fuel_is) row)) batch h
bound_step extra fuel given s step.Load o t sound sound' is batch on row h = stays_bound extra fuel given step.Load o s t
    (rests step.Load o s t (load_busy s o t (fuel_busy _ _ _ _ _ h.fuel_is) row)) batch h
bound_step extra fuel given s step.Pull o t sound sound' is batch on row h =
    pull_bound extra fuel given s o t sound sound' is batch row h
bound_step extra fuel given s step.HandOver o t sound sound' is batch on row h =
    hand_over_bound extra fuel given s o t batch row h
bound_step extra fuel given s step.Subtract o t sound sound' is batch on row h =
    subtract_bound extra fuel given s o t sound batch row h
bound_step extra fuel given s step.Close o t sound sound' is batch on row h = stays_bound extra fuel given step.Close o s t
    (rests step.Close o s t (close_busy s o t (fuel_busy _ _ _ _ _ h.fuel_is) row)) batch h
bound_step extra fuel given s step.Finish o t sound sound' is batch on row h =
    finish_bound extra fuel given s o t batch on row h
