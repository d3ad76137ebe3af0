-- What each step does to a drain of the batch queue between its load and its finish.
use Rattle.std.proofs.Common.{◌≡◌, ◌⊎◌, inl, inr, ◌∙◌, ap, sym, refl, ℕ, ◌+◌, ◌≤◌, Bool, true, false, List, [], ◌∷◌, nat_lt, if◌then◌else◌, arith, sum}
use Rattle.std.proofs.lemmas.Bool.Decides.{eqb_tells}
use Rattle.otel_batch.specs.Workers.{is_draining, worker_counts}
use Rattle.otel_batch.specs.MachineState.{Counts, limit_of}
use Rattle.otel_batch.specs.WorkerSteps.{PullRow, HandOverRow, SubtractRow}
use Rattle.otel_batch.specs.DrainEnds.{FinishRow}
use Rattle.otel_batch.specs.PermittedStep.{IsPermitted}
use Rattle.otel_batch.specs.Drains.{IsWholeDrain, NoneFinishes}
use Rattle.otel_batch.specs.declared.machine.state.Worker.{Worker}
use Rattle.otel_batch.specs.declared.machine.state.Worker.TheVariants as worker
use Rattle.otel_batch.specs.declared.machine.step.Outcome.{Outcome}
use Rattle.otel_batch.specs.declared.machine.step.Outcome.TheVariants as outcome
use Rattle.otel_batch.specs.declared.machine.step.Step.{Step}
use Rattle.otel_batch.specs.declared.machine.step.Step.TheVariants as step
use Rattle.otel_batch.proofs.TableFacts.{permitted-alone}
use Rattle.otel_batch.proofs.NumberLemmas.{ltb_tells}
use Rattle.otel_batch.proofs.BusyLemmas.{handed, is_busy, take_busy, tick_busy, clear_busy, load_busy, close_busy, StaysInDrain, stays_alone, rests}

-- a drain between its load and its finish, at whose load w spans waited, and which has handed over so many
pub record InDrain (w given : ℕ) (m : Counts) : Type 0 where
  pub busy : is_busy m.control.worker ≡ true
  pub place : (is_draining m.control.worker ≡ true) × (w ≤ m.control.target)
      × (given ≡ m.control.done + worker_counts m.control.worker)
      ⊎ (m.control.worker ≡ worker.Finishing) × (w ≤ given)
  pub balance : w ≤ given + m.hand + m.waiting

abbrev pub DrainNext : ℕ → ℕ → Outcome → Counts → Type 0
DrainNext w given (outcome.Finished e) t = w ≤ given
DrainNext w given outcome.NoMemory t = Unit {0}
DrainNext w given _ t = InDrain w given t

-- where the drain is left
next_of : (w given : ℕ) (o : Outcome) (t : Counts) → NoneFinishes (o ∷ []) → (o ≡ outcome.NoMemory → ⊥) →
    InDrain w given t → DrainNext w given o t
next_of w given (outcome.Finished e) t on spares d = absurd on
next_of w given outcome.NoMemory t on spares d = tt
next_of w given _ t on spares d = d

stays_next : (w given : ℕ) (x : Step) (o : Outcome) (s t : Counts) → StaysInDrain x o s t → InDrain w given s →
    DrainNext w (given + handed o) o t
stays_next w given x o s t stays d =
    let none : handed o ≡ 0 = ap sum stays.quiet in
    let hand = stays.hand_same in
    let more = stays.waiting_more in
    next_of w (given + handed o) o t stays.goes_on stays.spares (record {
      busy = ap is_busy stays.worker_same ∙ d.busy;
      place = elim d.place [
        | inl (on, fits, is) ↦ inl (
          ap is_draining stays.worker_same ∙ on,
          rw stays.target_same fits,
          rw (stays.worker_same, stays.done_same) (omega (arith, is, none)),
        )
        | inr (at, all) ↦ inr (stays.worker_same ∙ at, omega (arith, all))
      ];
      balance = omega (arith, d.balance, none, hand, more);
    })

drains_at : (w given : ℕ) (s : Counts) (v : Worker) → s.control.worker ≡ v → (v ≡ worker.Finishing → ⊥) →
    InDrain w given s → (w ≤ s.control.target) × (given ≡ s.control.done + worker_counts s.control.worker)
drains_at w given s v e never d = elim d.place [
  | inl on ↦ (on.1, on.2)
  | inr at ↦ absurd (never (sym e ∙ at.0))
]

pull_drain : (w given : ℕ) (s : Counts) (o : Outcome) (t : Counts) → PullRow s o t → InDrain w given s →
    DrainNext w (given + handed o) o t
pull_drain w given s outcome.Empty t row d =
    let was = drains_at w given s worker.Pulling row.0 (λ e. cc) d in
    let given_is : given ≡ s.control.done + 0 = rw row.0 at was.1 in
    let to = ap (λ c. c.control.worker) row.2 in
    let hand : t.hand ≡ s.hand = ap (λ c. c.hand) row.2 in
    let waiting : t.waiting ≡ s.waiting = ap (λ c. c.waiting) row.2 in
    let done : t.control.done ≡ s.control.done = ap (λ c. c.control.done) row.2 in
    let target : t.control.target ≡ s.control.target = ap (λ c. c.control.target) row.2 in
    elim (eqb_tells s.hand 0) [
      | inl none ↦
          let at : t.control.worker ≡ worker.Finishing = rw none.0 at to in
          record {
            busy = rw at refl;
            place = inr (at, omega (arith, d.balance, none.1, row.1));
            balance = omega (arith, d.balance, hand, waiting);
          }
      | inr some ↦
          let at : t.control.worker ≡ worker.Handing = rw some.0 at to in
          record {
            busy = rw at refl;
            place = inl (rw at refl, rw target was.0, rw (at, done) (omega (arith, given_is)));
            balance = omega (arith, d.balance, hand, waiting);
          }
    ]
pull_drain w given s outcome.NoMemory t row d = tt
pull_drain w given s outcome.Pulled t row d =
    let was = drains_at w given s worker.Pulling row.0 (λ e. cc) d in
    let given_is : given ≡ s.control.done + 0 = rw row.0 at was.1 in
    let to = ap (λ c. c.control.worker) row.2 in
    let hand : t.hand ≡ s.hand + 1 = ap (λ c. c.hand) row.2 in
    let done : t.control.done ≡ s.control.done = ap (λ c. c.control.done) row.2 in
    let target : t.control.target ≡ s.control.target = ap (λ c. c.control.target) row.2 in
    let waiting = row.1 in
    let free = none (nat_lt (s.hand + 1) (limit_of s.control)) in
    record {
      busy = rw to (busy _);
      place = inl (rw to (on _), rw target was.0, rw (to, done) (omega (arith, given_is, free)));
      balance = omega (arith, d.balance, hand, waiting);
    }
  where
    busy : (b : Bool) → is_busy (if b then worker.Pulling else worker.Handing) ≡ true
    busy true = refl
    busy false = refl

    on : (b : Bool) → is_draining (if b then worker.Pulling else worker.Handing) ≡ true
    on true = refl
    on false = refl

    none : (b : Bool) → worker_counts (if b then worker.Pulling else worker.Handing) ≡ 0
    none true = refl
    none false = refl
pull_drain w given s outcome.NotEnabled t row d =
    stays_next w given step.Pull outcome.NotEnabled s t (rests step.Pull outcome.NotEnabled s t (refl, row.1)) d
pull_drain w given s _ t row d = absurd row

hand_over_drain : (w given : ℕ) (s : Counts) (o : Outcome) (t : Counts) → HandOverRow s o t → InDrain w given s →
    DrainNext w (given + handed o) o t
hand_over_drain w given s (outcome.HandedOver k e) t row d =
    let was = drains_at w given s worker.Handing row.0 (λ e. cc) d in
    let given_is : given ≡ s.control.done + 0 = rw row.0 at was.1 in
    let to : t.control.worker ≡ worker.Subtracting k = ap (λ c. c.control.worker) row.3 in
    let hand : t.hand ≡ 0 = ap (λ c. c.hand) row.3 in
    let waiting : t.waiting ≡ s.waiting = ap (λ c. c.waiting) row.3 in
    let done : t.control.done ≡ s.control.done = ap (λ c. c.control.done) row.3 in
    let target : t.control.target ≡ s.control.target = ap (λ c. c.control.target) row.3 in
    let size = row.1 in
    record {
      busy = rw to refl;
      place = inl (rw to refl, rw target was.0, rw (to, done) (omega (arith, given_is)));
      balance = omega (arith, d.balance, hand, waiting, size);
    }
hand_over_drain w given s outcome.NotEnabled t row d = stays_next w given step.HandOver outcome.NotEnabled s t
    (rests step.HandOver outcome.NotEnabled s t (refl, row.1)) d
hand_over_drain w given s _ t row d = absurd row

subtract_drain : (w given : ℕ) (s : Counts) (o : Outcome) (t : Counts) → SubtractRow s o t → InDrain w given s →
    DrainNext w (given + handed o) o t
subtract_drain w given s outcome.Subtracted t row d =
    let k = row.0 in
    let was = drains_at w given s (worker.Subtracting k) row.1 (λ e. cc) d in
    let given_is : given ≡ s.control.done + k = rw row.1 at was.1 in
    let fits = was.0 in
    let to = ap (λ c. c.control.worker) row.2 in
    let hand : t.hand ≡ s.hand = ap (λ c. c.hand) row.2 in
    let waiting : t.waiting ≡ s.waiting = ap (λ c. c.waiting) row.2 in
    let done : t.control.done ≡ s.control.done + k = ap (λ c. c.control.done) row.2 in
    let target : t.control.target ≡ s.control.target = ap (λ c. c.control.target) row.2 in
    elim (ltb_tells (s.control.done + k) s.control.target) [
      | inl below ↦
          let at : t.control.worker ≡ worker.Pulling = rw below.0 at to in
          record {
            busy = rw at refl;
            place = inl (rw at refl, rw target fits, rw (at, done) (omega (arith, given_is)));
            balance = omega (arith, d.balance, hand, waiting);
          }
      | inr reached ↦
          let at : t.control.worker ≡ worker.Finishing = rw reached.0 at to in
          record {
            busy = rw at refl;
            place = inr (at, omega (arith, fits, reached.1, given_is));
            balance = omega (arith, d.balance, hand, waiting);
          }
    ]
subtract_drain w given s outcome.NotEnabled t row d = stays_next w given step.Subtract outcome.NotEnabled s t
    (rests step.Subtract outcome.NotEnabled s t (refl, row.1)) d
subtract_drain w given s _ t row d = absurd row

finish_drain : (w given : ℕ) (s : Counts) (o : Outcome) (t : Counts) → FinishRow s o t → InDrain w given s →
    DrainNext w (given + handed o) o t
finish_drain w given s (outcome.Finished e) t row d = elim d.place [
  | inl on ↦ absurd (let no : is_draining s.control.worker ≡ false = rw row.0 refl in let yes = on.0 in cc)
  | inr at ↦ omega (arith, at.1)
]
finish_drain w given s outcome.NotEnabled t row d = stays_next w given step.Finish outcome.NotEnabled s t
    (rests step.Finish outcome.NotEnabled s t (refl, row.1)) d
finish_drain w given s _ t row d = absurd row

-- one step of a drain
pub drain_step : (w given : ℕ) (s : Counts) (x : Step) (o : Outcome) (t : Counts) → IsPermitted s x o t → InDrain w given s →
    DrainNext w (given + handed o) o t
drain_step w given s (step.Offer p span) o t row d = stays_next w given (step.Offer p span) o s t
    (stays_alone (step.Offer p span) o s t refl (permitted-alone s (step.Offer p span) o t refl row)) d
drain_step w given s (step.Send p) o t row d = stays_next w given (step.Send p) o s t
    (stays_alone (step.Send p) o s t refl (permitted-alone s (step.Send p) o t refl row)) d
drain_step w given s (step.Undo p) o t row d = stays_next w given (step.Undo p) o s t
    (stays_alone (step.Undo p) o s t refl (permitted-alone s (step.Undo p) o t refl row)) d
drain_step w given s (step.Ask p) o t row d = stays_next w given (step.Ask p) o s t
    (stays_alone (step.Ask p) o s t refl (permitted-alone s (step.Ask p) o t refl row)) d
drain_step w given s (step.Post p) o t row d = stays_next w given (step.Post p) o s t
    (stays_alone (step.Post p) o s t refl (permitted-alone s (step.Post p) o t refl row)) d
drain_step w given s (step.Reset p) o t row d = stays_next w given (step.Reset p) o s t
    (stays_alone (step.Reset p) o s t refl (permitted-alone s (step.Reset p) o t refl row)) d
drain_step w given s (step.RequestFlush p) o t row d = stays_next w given (step.RequestFlush p) o s t
    (stays_alone (step.RequestFlush p) o s t refl (permitted-alone s (step.RequestFlush p) o t refl row)) d
drain_step w given s (step.RequestShutdown p) o t row d = stays_next w given (step.RequestShutdown p) o s t
    (stays_alone (step.RequestShutdown p) o s t refl (permitted-alone s (step.RequestShutdown p) o t refl row)) d
drain_step w given s (step.Collect p) o t row d = stays_next w given (step.Collect p) o s t
    (stays_alone (step.Collect p) o s t refl (permitted-alone s (step.Collect p) o t refl row)) d
drain_step w given s (step.PostResource resource) o t row d = stays_next w given (step.PostResource resource) o s t
    (stays_alone (step.PostResource resource) o s t refl (permitted-alone s (step.PostResource resource) o t refl row)) d
drain_step w given s step.Take o t row d = stays_next w given step.Take o s t
    (rests step.Take o s t (take_busy s o t d.busy row)) d
drain_step w given s step.Tick o t row d = stays_next w given step.Tick o s t
    (rests step.Tick o s t (tick_busy s o t d.busy row)) d
drain_step w given s step.Clear o t row d = stays_next w given step.Clear o s t
    (rests step.Clear o s t (clear_busy s o t d.busy row)) d
drain_step w given s step.Load o t row d = stays_next w given step.Load o s t
    (rests step.Load o s t (load_busy s o t d.busy row)) d
drain_step w given s step.Pull o t row d = pull_drain w given s o t row d
drain_step w given s step.HandOver o t row d = hand_over_drain w given s o t row d
drain_step w given s step.Subtract o t row d = subtract_drain w given s o t row d
drain_step w given s step.Close o t row d = stays_next w given step.Close o s t
    (rests step.Close o s t (close_busy s o t d.busy row)) d
drain_step w given s step.Finish o t row d = finish_drain w given s o t row d

-- neither a finish nor out of memory
abbrev is_plain : Outcome → Bool
is_plain (outcome.Finished e) = false
is_plain outcome.NoMemory = false
is_plain _ = true

-- the first outcome of a whole drain is its finish, or the rest is one too
pub whole_rest : (o : Outcome) (os : List Outcome) → IsWholeDrain (o ∷ os) →
    ((e : _) × (o ≡ outcome.Finished e) × (os ≡ [])) ⊎ (is_plain o ≡ true) × IsWholeDrain os
whole_rest (outcome.Finished e) [] d = inl (e, refl, refl)
whole_rest (outcome.Finished e) (o ∷ os) d = absurd d
whole_rest outcome.NoMemory os d = absurd d
whole_rest _ os d = inr (refl, d)

pub next_in : (w given : ℕ) (o : Outcome) (t : Counts) → is_plain o ≡ true → DrainNext w given o t → InDrain w given t
next_in w given (outcome.Finished e) t plain d = absurd (cc)
next_in w given outcome.NoMemory t plain d = absurd (cc)
next_in w given _ t plain d = d
