-- A shutdown of the batch queue counts the spans that it leaves behind.
use Rattle.std.proofs.Common.{◌≡◌, ◌∙◌, ap, refl, zero, suc, ℕ, true, List, [], ◌∷◌, None, Some, length, take, slice_get, arith}
use Rattle.otel_batch.specs.MachineState.{Machine, counts, stranded_in}
use Rattle.otel_batch.specs.SoundMachine.{IsSound}
use Rattle.otel_batch.specs.MachineRun.{Run, accepted, batch_sizes, holds_at}
use Rattle.otel_batch.specs.Conservation.{IsFirst}
use Rattle.otel_batch.specs.StrandedSpans.{AllAreCounted, CountsStranded}
use Rattle.otel_batch.specs.declared.machine.step.Outcome.{Outcome}
use Rattle.otel_batch.specs.declared.machine.step.Outcome.TheVariants as outcome
use Rattle.otel_batch.specs.declared.machine.step.Step.{Step}
use Rattle.otel_export.specs.declared.trace.export.SpanExporter.{Ghosts}
use Rattle.otel_batch.proofs.Conserving.{run-conserves, run-conserves_from}
use Rattle.otel_batch.proofs.Draining.{conserves-count}
use Rattle.otel_batch.proofs.HeldSpanLemmas.{AreHeldIn, held_at_first}
use Rattle.otel_batch.proofs.Silence.{closes, run-stays_silent}

module _ {E : Type 0} (calls : Ghosts E) where
  -- the n-th step of a run completed a shutdown that left k spans
  record AtClose (n k : ℕ) (s : Machine E) (xs : List Step) (os : List Outcome) (t : Machine E) : Type 0 where
    -- the machine after it
    shut : Machine E
    up_to : Run calls s (take (suc n) xs) (take (suc n) os) shut
    left : length shut.waiting ≡ k
    empty : length shut.hand ≡ 0
    -- and at the end of the run
    waiting : t.waiting ≡ shut.waiting
    hand : t.hand ≡ shut.hand
    closed : t.control.closed ≡ true

  at_close : (n k : ℕ) (s : Machine E) (xs : List Step) (os : List Outcome) (t : Machine E) → Run calls s xs os t →
      slice_get os n ≡ Some (outcome.ShutDown k) → AtClose n k s xs os t
  at_close n k s [] [] t run e =
      absurd (let os : List Outcome = [] in let none : slice_get os n ≡ None = refl in cc)
  at_close zero k s (x ∷ xs) (o ∷ os) t run e =
      let is : o ≡ outcome.ShutDown k = cc in
      let shut = closes calls s x o k run.0 is run.1 in
      let stays = run-stays_silent calls run.0 xs os t run.1.sound run.2 shut.2 in
      record {
        shut = run.0;
        up_to = (run.0, run.1, refl);
        left = shut.3;
        empty = run.1.sound.drain.hand_empty (rw shut.1 refl);
        waiting = stays.waiting;
        hand = stays.hand;
        closed = stays.closed;
      }
  at_close (suc n) k s (x ∷ xs) (o ∷ os) t run e =
      let later = at_close n k run.0 xs os t run.2 e in
      record {
        shut = later.shut;
        up_to = (run.0, run.1, later.up_to);
        left = later.left;
        empty = later.empty;
        waiting = later.waiting;
        hand = later.hand;
        closed = later.closed;
      }
  at_close n k s [] (o ∷ os) t run e = absurd run
  at_close n k s (x ∷ xs) [] t run e = absurd run

  -- every shutdown of a run counts what it leaves
  pub run-strands : (s : Machine E) (xs : List Step) (os : List Outcome) (t : Machine E) → Run calls s xs os t →
      CountsStranded s xs os t
  run-strands s xs os t run n k e =
      let at = at_close n k s xs os t run e in
      let spans = accepted (holds_at s.control.slots) (take (suc n) xs) (take (suc n) os) in
      let before = conserves-count calls s spans (batch_sizes (take (suc n) os)) at.shut
      (run-conserves calls s (take (suc n) xs) (take (suc n) os) at.shut at.up_to) in
      let all = conserves-count calls s (accepted (holds_at s.control.slots) xs os) (batch_sizes os) t
      (run-conserves calls s xs os t run) in
      let left = at.left in
      let empty = at.empty in
      let waiting : length t.waiting ≡ k = ap length at.waiting ∙ at.left in
      let hand : length t.hand ≡ 0 = ap length at.hand ∙ at.empty in
      record {
        up_to = omega (arith, before, left, empty);
        whole = omega (arith, all, waiting, hand);
        stranded = rw (at.closed, waiting) refl;
      }

  -- so it is from a new machine on
  pub run-counts : (s : Machine E) (xs : List Step) (os : List Outcome) (t : Machine E) → IsFirst s →
      Run calls s xs os t → AllAreCounted xs os
  run-counts s xs os t first run n k e =
      let at = at_close n k s xs os t run e in
      let holds : AreHeldIn (λ p. []) s.control.slots =
      rw (ap (λ m. m.control.slots) first.made) (held_at_first first.producers) in
      let all = conserves-count calls s (accepted (λ p. []) xs os) (batch_sizes os) t
      (run-conserves_from calls (λ p. []) s xs os t holds run) in
      let none : length s.hand ≡ 0 = ap (λ m. length m.hand) first.made in
      let nothing : length s.waiting ≡ 0 = ap (λ m. length m.waiting) first.made in
      let waiting : length t.waiting ≡ k = ap length at.waiting ∙ at.left in
      let hand : length t.hand ≡ 0 = ap length at.hand ∙ at.empty in
      omega (arith, all, none, nothing, waiting, hand)

  -- a machine that is closed keeps the number
  pub run-keeps_stranded : (s : Machine E) (xs : List Step) (os : List Outcome) (t : Machine E) → IsSound (counts s) →
      Run calls s xs os t → s.control.closed ≡ true → stranded_in t ≡ stranded_in s
  run-keeps_stranded s xs os t sound run closed =
      let stays = run-stays_silent calls s xs os t sound run closed in
      rw (stays.closed, closed, stays.waiting) refl
