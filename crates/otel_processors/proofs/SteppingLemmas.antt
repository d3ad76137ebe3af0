-- Runs by a next step, one step more at a time, and as runs of the queue.
use Rattle.std.proofs.Common.{◌≡◌, refl, List, [], ◌∷◌, ◌++◌, Option, Some}
use Rattle.otel_export.specs.declared.error.OTelSdkError.{OTelSdkError}
use Rattle.otel_batch.specs.MachineState.{Control, Machine}
use Rattle.otel_batch.specs.MachineRun.{Run, IsStep}
use Rattle.otel_batch.specs.declared.machine.step.Outcome.{Outcome}
use Rattle.otel_batch.specs.declared.machine.step.Outcome.TheVariants as outcome
use Rattle.otel_batch.specs.declared.machine.step.Step.{Step}
use Rattle.otel_export.specs.declared.trace.export.SpanExporter.{Ghosts}
use Rattle.otel_batch.specs.WorkedOff.{GoesBy, last_error}

module _ {E : Type 0} (calls : Ghosts E) (next : Control → Option Step) where
  -- one step more
  pub goes_more : (s : Machine E) (xs : List Step) (os : List Outcome) (m : Machine E) (x : Step) (o : Outcome)
      (t : Machine E) → GoesBy calls next s xs os m → next m.control ≡ Some x → IsStep calls m x o t →
      GoesBy calls next s (xs ++ x ∷ []) (os ++ o ∷ []) t
  goes_more s [] [] m x o t goes is steps = (rw goes at is, t, rw goes at steps, refl)
  goes_more s (y ∷ ys) (p ∷ ps) m x o t goes is steps =
      (goes.0, goes.1, goes.2, goes_more goes.1 ys ps m x o t goes.3 is steps)
  goes_more s [] (p ∷ ps) m x o t goes is steps = absurd goes
  goes_more s (y ∷ ys) [] m x o t goes is steps = absurd goes

  -- one run more
  pub goes_joined : (s : Machine E) (xs : List Step) (os : List Outcome) (m : Machine E) (ys : List Step)
      (ps : List Outcome) (t : Machine E) → GoesBy calls next s xs os m → GoesBy calls next m ys ps t →
      GoesBy calls next s (xs ++ ys) (os ++ ps) t
  goes_joined s [] [] m ys ps t goes more = rw goes at more
  goes_joined s (x ∷ xs) (o ∷ os) m ys ps t goes more =
      (goes.0, goes.1, goes.2, goes_joined goes.1 xs os m ys ps t goes.3 more)
  goes_joined s [] (o ∷ os) m ys ps t goes more = absurd goes
  goes_joined s (x ∷ xs) [] m ys ps t goes more = absurd goes

  -- such a run is a run of the queue
  pub goes_runs : (s : Machine E) (xs : List Step) (os : List Outcome) (t : Machine E) →
      GoesBy calls next s xs os t → Run calls s xs os t
  goes_runs s [] [] t goes = goes
  goes_runs s (x ∷ xs) (o ∷ os) t goes = (goes.1, goes.2, goes_runs goes.1 xs os t goes.3)
  goes_runs s [] (o ∷ os) t goes = absurd goes
  goes_runs s (x ∷ xs) [] t goes = absurd goes

-- the last error, with one outcome more
pub last_more : (before : Option OTelSdkError) (os : List Outcome) (o : Outcome) →
    last_error before (os ++ o ∷ []) ≡ last_error (last_error before os) (o ∷ [])
last_more before [] o = refl
last_more before (outcome.Finished e ∷ os) o = last_more e os o
last_more before (_ ∷ os) o = last_more before os o

-- and with more outcomes
pub last_joined : (before : Option OTelSdkError) (os ps : List Outcome) →
    last_error before (os ++ ps) ≡ last_error (last_error before os) ps
last_joined before [] ps = refl
last_joined before (outcome.Finished e ∷ os) ps = last_joined e os ps
last_joined before (_ ∷ os) ps = last_joined before os ps
