-- The worker adds no span to those that wait. Where it hands none over its exporter is told nothing, and all goes on
-- waiting. No step changes the size of the queue or of a batch.
use Rattle.std.proofs.Common.{◌≡◌, ◌∙◌, refl, ap, ℕ, ◌+◌, ◌≤◌, true, List, [], ◌∷◌, ◌++◌, Option, length, length-append, arith}
use Rattle.otel_batch.specs.MachineState.{Control, Machine, counts}
use Rattle.otel_batch.specs.SoundMachine.{IsSound}
use Rattle.otel_batch.specs.MovedSpans.{MovesSpans}
use Rattle.otel_batch.specs.PermittedStep.{IsPermitted}
use Rattle.otel_batch.specs.Drains.{is_workers}
use Rattle.otel_batch.specs.declared.machine.step.Outcome.{Outcome}
use Rattle.otel_batch.specs.declared.machine.step.Outcome.TheVariants as outcome
use Rattle.otel_batch.specs.declared.machine.step.Step.{Step}
use Rattle.otel_batch.specs.declared.machine.step.Step.TheVariants as step
use Rattle.otel_export.specs.declared.trace.export.SpanExporter.{Ghosts}
use Rattle.otel_batch.proofs.TableFacts.{permitted-leaves}
use Rattle.otel_batch.specs.WorkedOff.{GoesBy, next_of_worker}
use Rattle.otel_processors.proofs.Worker.{has_next, is_workers_next}

-- how many spans wait or are in hand
abbrev pub spans_left : {E : Type 0} → Machine E → ℕ
spans_left m = length m.hand + length m.waiting

-- no more spans are left, and where as many are no span was handed over
pub record TakesOff {E : Type 0} (calls : Ghosts E) (s t : Machine E) : Type 0 where
  pub fewer : spans_left t ≤ spans_left s
  pub quiet : spans_left t ≡ spans_left s →
      (calls.told t.exporter ≡ calls.told s.exporter) × (t.hand ++ t.waiting ≡ s.hand ++ s.waiting)

module _ {E : Type 0} (calls : Ghosts E) where
  none_handed : (s t : Machine E) → calls.told t.exporter ≡ calls.told s.exporter →
      t.hand ++ t.waiting ≡ s.hand ++ s.waiting → TakesOff calls s t
  none_handed s t told both =
      let before = length-append s.hand s.waiting in
      let after = length-append t.hand t.waiting in
      let same : length (t.hand ++ t.waiting) ≡ length (s.hand ++ s.waiting) = ap length both in
      record { fewer = omega (arith, before, after, same); quiet = λ e. (told, both) }

  keeps_all : (s t : Machine E) → calls.told t.exporter ≡ calls.told s.exporter → t.hand ≡ s.hand →
      t.waiting ≡ s.waiting → TakesOff calls s t
  keeps_all s t told hand waiting = none_handed s t told (rw (hand, waiting) refl)

  pub take_off_then : (s m t : Machine E) → TakesOff calls s m → TakesOff calls m t → TakesOff calls s t
  take_off_then s m t first rest =
      let a = first.fewer in
      let b = rest.fewer in
      record {
        fewer = omega (arith, a, b);
        quiet = λ e.
            let one = first.quiet (omega (arith, a, b, e)) in
            let other = rest.quiet (omega (arith, a, b, e)) in
            (other.0 ∙ one.0, other.1 ∙ one.1);
      }

  moved_take_off : (s : Machine E) (x : Step) (o : Outcome) (t : Machine E) → is_workers x ≡ true →
      IsSound (counts s) → IsPermitted (counts s) x o (counts t) → MovesSpans calls s x o t → TakesOff calls s t
  moved_take_off s (step.Send p) outcome.Accepted t worker sound row m = absurd (cc)
  moved_take_off s step.Pull outcome.Pulled t worker sound row m = none_handed s t (ap calls.told m.exporter) m.both
  moved_take_off s step.HandOver (outcome.HandedOver k e) t worker sound row m =
      let some = sound.drain.handing (rw row.0 refl) in
      let hand : length t.hand ≡ 0 = ap length m.hand in
      let waiting : length t.waiting ≡ length s.waiting = ap length m.waiting in
      record {
        fewer = omega (arith, hand, waiting);
        quiet = λ e. absurd (omega (arith, e, some, hand, waiting));
      }
  moved_take_off s step.Take outcome.TookResource t worker sound row m = keeps_all s t m.told m.hand m.waiting
  moved_take_off s step.Close (outcome.ShutDown n) t worker sound row m = keeps_all s t m.told m.hand m.waiting
  moved_take_off s _ _ t worker sound row m = keeps_all s t (ap calls.told m.exporter) m.hand m.waiting

  -- so it is all along the worker's run
  pub goes_take_off : (s : Machine E) (xs : List Step) (os : List Outcome) (t : Machine E) → IsSound (counts s) →
      GoesBy calls next_of_worker s xs os t → TakesOff calls s t
  goes_take_off s [] [] t sound goes =
      rw goes (keeps_all s s refl refl refl)
  goes_take_off s (x ∷ xs) (o ∷ os) t sound goes =
      let m = goes.1 in
      let has = has_next s.control x goes.0 in
      let first = moved_take_off s x o m (ap is_workers has.is ∙ is_workers_next s.control.worker) sound
      goes.2.permitted goes.2.moved in
      take_off_then s m t first (goes_take_off m xs os t goes.2.sound goes.3)
  goes_take_off s [] (o ∷ os) t sound goes = absurd goes
  goes_take_off s (x ∷ xs) [] t sound goes = absurd goes

-- the size of the queue and of a batch stay
pub record KeepsSizes (s t : Control) : Type 0 where
  pub queue_size : t.queue_size ≡ s.queue_size
  pub batch_size : t.batch_size ≡ s.batch_size

pub sizes_then : (s m t : Control) → KeepsSizes s m → KeepsSizes m t → KeepsSizes s t
sizes_then s m t first rest =
    record { queue_size = rest.queue_size ∙ first.queue_size; batch_size = rest.batch_size ∙ first.batch_size }

module _ {E : Type 0} (calls : Ghosts E) where
  pub step_keeps_sizes : (s : Machine E) (x : Step) (o : Outcome) (t : Machine E) →
      IsPermitted (counts s) x o (counts t) → KeepsSizes s.control t.control
  step_keeps_sizes s x o t row =
      let leaves = permitted-leaves (counts s) x o (counts t) row in
      record { queue_size = leaves.queue_size; batch_size = leaves.batch_size }

  pub goes_keep_sizes : (next : Control → Option Step) (s : Machine E) (xs : List Step) (os : List Outcome)
      (t : Machine E) → GoesBy calls next s xs os t → KeepsSizes s.control t.control
  goes_keep_sizes next s [] [] t goes = rw goes (record { queue_size = refl; batch_size = refl })
  goes_keep_sizes next s (x ∷ xs) (o ∷ os) t goes =
      sizes_then s.control goes.1.control t.control (step_keeps_sizes s x o goes.1 goes.2.permitted)
      (goes_keep_sizes next goes.1 xs os t goes.3)
  goes_keep_sizes next s [] (o ∷ os) t goes = absurd goes
  goes_keep_sizes next s (x ∷ xs) [] t goes = absurd goes
