-- Runs of the batch queue one after another.
use Rattle.std.proofs.Common.{refl, zero, suc, ℕ, List, [], ◌∷◌, ◌++◌, take, drop}
use Rattle.otel_batch.specs.MachineState.{Machine, counts}
use Rattle.otel_batch.specs.SoundMachine.{IsSound}
use Rattle.otel_batch.specs.MachineRun.{Run, SplitsRun}
use Rattle.otel_batch.specs.declared.machine.step.Outcome.{Outcome}
use Rattle.otel_batch.specs.declared.machine.step.Step.{Step}
use Rattle.otel_export.specs.declared.trace.export.SpanExporter.{Ghosts}

module _ {E : Type 0} (calls : Ghosts E) where
  -- a run from a sound machine ends in a sound one
  pub run-sound : (s : Machine E) (xs : List Step) (os : List Outcome) (t : Machine E) → IsSound (counts s) →
      Run calls s xs os t → IsSound (counts t)
  run-sound s [] [] t sound run = rw run sound
  run-sound s (x ∷ xs) (o ∷ os) t sound run = run-sound run.0 xs os t run.1.sound run.2
  run-sound s [] (o ∷ os) t sound run = absurd run
  run-sound s (x ∷ xs) [] t sound run = absurd run

  -- two runs in one
  pub run-joins : (s : Machine E) (xs : List Step) (os : List Outcome) (m : Machine E) (ys : List Step)
      (ps : List Outcome) (t : Machine E) → Run calls s xs os m → Run calls m ys ps t →
      Run calls s (xs ++ ys) (os ++ ps) t
  run-joins s [] [] m ys ps t first second = rw first at second
  run-joins s (x ∷ xs) (o ∷ os) m ys ps t first second =
      (first.0, first.1, run-joins first.0 xs os m ys ps t first.2 second)
  run-joins s [] (o ∷ os) m ys ps t first second = absurd first
  run-joins s (x ∷ xs) [] m ys ps t first second = absurd first

  -- a run in two
  pub run-splits : (s : Machine E) (xs : List Step) (os : List Outcome) (t : Machine E) (n : ℕ) → Run calls s xs os t →
      (between : Machine E) × Run calls s (take n xs) (take n os) between × Run calls between (drop n xs) (drop n os) t
  run-splits s xs os t zero run = (s, refl, run)
  run-splits s [] [] t (suc n) run = (s, refl, run)
  run-splits s (x ∷ xs) (o ∷ os) t (suc n) run =
      let rest = run-splits run.0 xs os t n run.2 in
      (rest.0, (run.0, run.1, rest.1), rest.2)
  run-splits s [] (o ∷ os) t (suc n) run = absurd run
  run-splits s (x ∷ xs) [] t (suc n) run = absurd run

  -- a run of two lists of steps, by these
  pub run-parts : (s : Machine E) (xs ys : List Step) (os : List Outcome) (t : Machine E) →
      Run calls s (xs ++ ys) os t → SplitsRun calls s xs ys os t
  run-parts s [] ys os t run = record { between = s; first = refl; second = run }
  run-parts s (x ∷ xs) ys (o ∷ os) t run =
      let rest = run-parts run.0 xs ys os t run.2 in
      record { between = rest.between; first = (run.0, run.1, rest.first); second = rest.second }
  run-parts s (x ∷ xs) ys [] t run = absurd run
