-- How many exports failed, as the worker counts them, and that a drain without memory is one of them.
use Rattle.std.proofs.Common.{◌≡◌, ◌⊎◌, ◌∙◌, inl, inr, refl, ap, sym, ℕ, zero, suc, ◌+◌, ◌<◌, ◌==◌, ◌&&◌, ◌||◌, not, Bool, true, false, List, [], ◌∷◌, ◌++◌, Some, length, replicate, nat_lt, if◌then◌else◌, arith}
use Rattle.std.proofs.lemmas.Bool.Decides.{eqb_tells}
use Rattle.std.proofs.lemmas.List.Sums.{sum_by-append, sum_by-cons}
use Rattle.otel_export.specs.PlainSpanData.{PlainSpanData}
use Rattle.otel_batch.specs.Workers.{is_finishing}
use Rattle.otel_batch.specs.MachineState.{Counts, Machine, counts, limit_of}
use Rattle.otel_batch.specs.WorkerSteps.{PullRow}
use Rattle.otel_batch.specs.GoingOn.{is_enabled, next_step}
use Rattle.otel_batch.specs.MachineRun.{IsStep, counted_up}
use Rattle.otel_batch.specs.DrainAnswers.{finds_no_memory}
use Rattle.otel_batch.specs.WorkedOff.{GoesBy, next_of_worker}
use Rattle.otel_batch.specs.declared.machine.state.Worker.{Worker}
use Rattle.otel_batch.specs.declared.machine.state.Worker.TheVariants as worker
use Rattle.otel_batch.specs.declared.machine.step.Outcome.{Outcome}
use Rattle.otel_batch.specs.declared.machine.step.Outcome.TheVariants as outcome
use Rattle.otel_batch.specs.declared.machine.step.Step.TheVariants as step
use Rattle.otel_export.specs.declared.trace.export.SpanExporter.{Ghosts}
use Rattle.std.specs.Prelude.{MatchBool}
use Rattle.otel_batch.specs.Drains.{has_full_batch}
use Rattle.otel_processors.specs.EagerExports.{Drains, ExportsFullBatch, OffersEagerly, failures_in, is_failed_export}
use Rattle.otel_processors.proofs.Worker.{has_next}

-- a count that stops goes on as one, and by a count that began at 0
pub counted_on : (before first rest : ℕ) → counted_up (counted_up before first) rest ≡ counted_up before (first + rest)
counted_on before first rest = omega arith

pub counted_both : (first rest : ℕ) → counted_up (counted_up 0 first) (counted_up 0 rest) ≡ counted_up 0 (first + rest)
counted_both first rest = omega arith

pub counted_since : (before more : ℕ) → counted_up before (counted_up 0 more) ≡ counted_up before more
counted_since before more = omega arith

-- how many failed of two runs, and of one outcome
pub failures-append : (os ps : List Outcome) → failures_in (os ++ ps) ≡ failures_in os + failures_in ps
failures-append os ps = sum_by-append (λ o. if is_failed_export o then 1 else 0) os ps

failures-cons : (o : Outcome) (os : List Outcome) →
    failures_in (o ∷ os) ≡ (if is_failed_export o then 1 else 0) + failures_in os
failures-cons o os = sum_by-cons (λ o. if is_failed_export o then 1 else 0) o os

pub failures_of_one : (o : Outcome) → failures_in (o ∷ []) ≡ (if is_failed_export o then 1 else 0)
failures_of_one o = let one = failures-cons o [] in omega (arith, one)

-- a drain that found no memory for a batch has an export that failed
pub refusal_fails : (os : List Outcome) → finds_no_memory os ≡ true → 0 < failures_in os
refusal_fails [] found = absurd (cc)
refusal_fails (outcome.NoMemory ∷ os) found =
    let one : failures_in (outcome.NoMemory ∷ os) ≡ 1 + failures_in os = failures-cons outcome.NoMemory os in
    omega (arith, one)
refusal_fails (o ∷ os) found =
    let one = failures-cons o os in
    let rest = refusal_fails os found in
    omega (arith, one, rest)

-- the worker ends its drain though spans wait
abbrev pub leaves_spans : Counts → Bool
leaves_spans t = is_finishing t.control.worker && not (t.waiting == 0)

and_false : (b : Bool) → (b && false) ≡ false
and_false true = refl
and_false false = refl

goes_on_pulling : (b : Bool) → is_finishing (if b then worker.Pulling else worker.Handing) ≡ false
goes_on_pulling true = refl
goes_on_pulling false = refl

some_wait : (n : ℕ) → 0 < n → not (n == 0) ≡ true
some_wait n some = elim (eqb_tells n 0) [
  | inl none ↦ absurd (let no = none.1 in omega (arith, some, no))
  | inr more ↦ rw more.0 refl
]

-- a pull has failed where the worker then ends its drain though spans wait
pull_failed : (s : Counts) (o : Outcome) (t : Counts) → PullRow s o t → is_enabled o ≡ true →
    is_failed_export o ≡ leaves_spans t
pull_failed s outcome.Empty t row on =
    let none : t.waiting ≡ 0 = ap (λ (c : Counts). c.waiting) row.2 ∙ row.1 in
    rw none (sym (and_false (is_finishing t.control.worker)))
pull_failed s outcome.NoMemory t row on =
    let ends : t.control.worker ≡ worker.Finishing = ap (λ (c : Counts). c.control.worker) row.3 in
    let same : t.waiting ≡ s.waiting = ap (λ (c : Counts). c.waiting) row.3 in
    rw (ends, same, some_wait s.waiting row.1) refl
pull_failed s outcome.Pulled t row on =
    let at : t.control.worker ≡ (if nat_lt (s.hand + 1) (limit_of s.control) then worker.Pulling else worker.Handing) =
    ap (λ (c : Counts). c.control.worker) row.2 in
    rw (at, goes_on_pulling (nat_lt (s.hand + 1) (limit_of s.control))) refl
pull_failed s outcome.NotEnabled t row on = absurd (cc)
pull_failed s _ t row on = absurd row

-- a worker that pulls next ends no drain
pulls_not_ends : (w : Worker) → step.Pull ≡ next_step w → is_finishing w ≡ false
pulls_not_ends worker.Finishing is = absurd (let no : step.Pull ≡ step.Finish = is in cc)
pulls_not_ends _ is = refl

not_left : (b : Bool) → b ≡ false → (c : Bool) → (b && c) ≡ false
not_left true e c = absurd (cc)
not_left false e c = refl

abbrev one_if : Bool → ℕ
one_if b = if b then 1 else 0

either : (a b : Bool) → (a || b) ≡ true → (a ≡ true) ⊎ (b ≡ true)
either true b e = inl refl
either false b e = inr e

module _ {E : Type 0} (calls : Ghosts E) where
  one_pull : (s : Machine E) (o : Outcome) (t : Machine E) → next_of_worker s.control ≡ Some step.Pull →
      IsStep calls s step.Pull o t → is_failed_export o ≡ leaves_spans (counts t)
  one_pull s o t next pulled =
      let has = has_next s.control step.Pull next in
      pull_failed (counts s) o (counts t) pulled.permitted (pulled.goes_on has.is has.stays)

  -- of so many pulls one failed where the worker then ends its drain though spans wait
  pub pulls_failed : (more : ℕ) (s : Machine E) (o : Outcome) (os : List Outcome) (t : Machine E) →
      GoesBy calls next_of_worker s (step.Pull ∷ replicate more step.Pull) (o ∷ os) t →
      failures_in (o ∷ os) ≡ (if leaves_spans (counts t) then 1 else 0)
  pulls_failed zero s o [] t goes =
      failures_of_one o ∙ ap one_if (one_pull s o goes.1 goes.0 goes.2
      ∙ ap (λ (m : Machine E). leaves_spans (counts m)) (sym goes.3))
  pulls_failed zero s o (p ∷ ps) t goes = absurd goes.3
  pulls_failed (suc n) s o [] t goes = absurd goes.3
  pulls_failed (suc n) s o (p ∷ ps) t goes =
      let has = has_next goes.1.control step.Pull goes.3.0 in
      let goes_on : is_failed_export o ≡ false = one_pull s o goes.1 goes.0 goes.2
      ∙ not_left (is_finishing goes.1.control.worker) (pulls_not_ends goes.1.control.worker has.is)
      (not (length goes.1.waiting == 0)) in
      let first : one_if (is_failed_export o) ≡ 0 = ap one_if goes_on in
      let rest = pulls_failed n goes.1 p ps t goes.3 in
      let all = failures-cons o (p ∷ ps) in
      omega (arith, all, first, rest)

  -- where as many spans wait as a batch has, a drain without memory fails
  full_drain_fails : (full : Bool) (s : Machine E) (refused : Bool) (failed : ℕ) (t : Machine E) →
      MatchBool full (Drains calls s refused failed t) ((refused ≡ false) × (failed ≡ 0) × (t ≡ s)) →
      refused ≡ true → 0 < failed
  full_drain_fails true s refused failed t drains found =
      let some = refusal_fails drains.drain.works.outcomes (sym drains.refusal ∙ found) in
      let is = drains.failures in
      omega (arith, some, is)
  full_drain_fails false s refused failed t drains found = absurd (let none = drains.0 in cc)

  full_export_fails : (s : Machine E) (refused : Bool) (failed : ℕ) (t : Machine E) →
      ExportsFullBatch calls s refused failed t → refused ≡ true → 0 < failed
  full_export_fails s refused failed t exports found =
      let some = full_drain_fails (has_full_batch exports.idle) exports.idle refused exports.failed_draining t
      exports.drains found in
      let is = exports.failures in
      omega (arith, some, is)

  -- so does an eager end in which one found none
  pub refused_ends_fail : (s : Machine E) (span : PlainSpanData) (refused : Bool) (failed : ℕ) (t : Machine E) →
      OffersEagerly calls s span refused failed t → refused ≡ true → 0 < failed
  refused_ends_fail s span refused failed t offers found =
      let is = offers.failures in
      elim (either offers.refused_before offers.refused_after (sym offers.refusal ∙ found)) [
        | inl before ↦
            let some = full_export_fails s offers.refused_before offers.failed_before offers.roomy offers.makes_room
            before in
            omega (arith, some, is)
        | inr after ↦
            let some = after_fails (has_full_batch offers.roomy) offers.exports after in
            omega (arith, some, is)
      ]
    where
      after_fails : (full : Bool) → MatchBool full
          ((offers.refused_after ≡ false) × (offers.failed_after ≡ 0) × (t ≡ offers.queued))
          (ExportsFullBatch calls offers.queued offers.refused_after offers.failed_after t) →
          offers.refused_after ≡ true → 0 < offers.failed_after
      after_fails true given after = absurd (let none = given.0 in cc)
      after_fails false given after =
          full_export_fails offers.queued offers.refused_after offers.failed_after t given after
