-- Drains of the batch queue are complete: what waited at the load of one is handed over before its finish.
use Rattle.std.proofs.Common.{◌≡◌, ◌⊎◌, inl, inr, ◌∙◌, ap, sym, refl, subst, zero, suc, ℕ, ◌+◌, ◌≤◌, true, List, [], ◌∷◌, ◌++◌, length, map, Some, None, take, drop, slice_get, append_assoc, length-append, arith, sum, sum_by}
use Rattle.std.proofs.lemmas.Bool.Decides.{eqb_tells}
use Rattle.std.proofs.lemmas.List.{nil_from_length}
use Rattle.otel_export.specs.PlainSpanData.{PlainSpanData, spans_in}
use Rattle.otel_batch.specs.Slots.{slot_counts}
use Rattle.otel_batch.specs.MachineState.{Machine, Counts, counts}
use Rattle.otel_batch.specs.SoundMachine.{IsSound}
use Rattle.otel_batch.specs.WorkerSteps.{LoadRow}
use Rattle.otel_batch.specs.PermittedStep.{IsPermitted}
use Rattle.otel_batch.specs.MachineRun.{Run, accepts, accepted, holds_after, holds_at, batch_sizes}
use Rattle.otel_batch.specs.Conservation.{Conserves}
use Rattle.otel_batch.specs.Drains.{is_workers, IsWholeDrain, AreWorkers, HandsOverFirst, CompletesDrains}
use Rattle.otel_batch.specs.declared.machine.state.Worker.TheVariants as worker
use Rattle.otel_batch.specs.declared.machine.step.Outcome.{Outcome}
use Rattle.otel_batch.specs.declared.machine.step.Outcome.TheVariants as outcome
use Rattle.otel_batch.specs.declared.machine.step.Step.{Step}
use Rattle.otel_batch.specs.declared.machine.step.Step.TheVariants as step
use Rattle.otel_export.specs.declared.trace.export.SpanExporter.{Ghosts}
use Rattle.otel_batch.proofs.SlotSums.{counts_le}
use Rattle.otel_batch.proofs.TableFacts.{permitted-leaves}
use Rattle.otel_batch.proofs.Conserving.{run-conserves, conserves_then}
use Rattle.otel_batch.proofs.Runs.{run-splits}
use Rattle.otel_batch.proofs.NumberLemmas.{sum-cons, sum-append}
use Rattle.otel_batch.proofs.BusyLemmas.{handed, handed-rest}
use Rattle.otel_batch.proofs.DrainStepLemmas.{InDrain, DrainNext, drain_step, whole_rest, next_in}

-- the target of a drain is what waits and what the producers hold
load_target : (s : Counts) (target : ℕ) (t : Counts) → IsSound s → LoadRow s (outcome.Loaded target) t →
    target ≡ s.waiting + sum_by slot_counts s.control.slots
load_target s target t sound row =
    let none : s.hand ≡ 0 = sound.drain.hand_empty (rw row.1 refl) in
    let total : target ≡ s.waiting + s.hand + 0 + sum_by slot_counts s.control.slots =
    row.2 ∙ (rw row.1 at sound.counted.total) in
    omega (arith, none, total)

pub load-covers : (s t : Counts) (target : ℕ) → IsSound s → IsPermitted s step.Load (outcome.Loaded target) t →
    s.waiting ≤ target
load-covers s t target sound row = omega (arith, load_target s target t sound row)

pub load-fits : (s t : Counts) (target : ℕ) → IsSound s → IsPermitted s step.Load (outcome.Loaded target) t →
    target ≤ s.control.queue_size + length s.control.slots
load-fits s t target sound row =
    omega (arith, load_target s target t sound row, counts_le s.control.slots, sound.fits.waiting_fits)

-- the machine right after a load
pub record StartsDrain (target : ℕ) (t : Counts) : Type 0 where
  pub drain : InDrain t.waiting 0 t
  pub starts : (t.control.worker ≡ worker.Pulling) ⊎ (t.control.worker ≡ worker.Finishing)
  pub target_is : t.control.target ≡ target
  pub done_is : t.control.done ≡ 0
  pub hand_is : t.hand ≡ 0

load_drain : (s : Counts) (x : Step) (target : ℕ) (t : Counts) → IsSound s →
    IsPermitted s x (outcome.Loaded target) t → StartsDrain target t
load_drain s step.Load target t sound row =
    let none : s.hand ≡ 0 = sound.drain.hand_empty (rw row.1 refl) in
    let total = load_target s target t sound row in
    let to = ap (λ c. c.control.worker) row.3 in
    let hand : t.hand ≡ s.hand = ap (λ c. c.hand) row.3 in
    let waiting : t.waiting ≡ s.waiting = ap (λ c. c.waiting) row.3 in
    let done : t.control.done ≡ 0 = ap (λ c. c.control.done) row.3 in
    let is : t.control.target ≡ target = ap (λ c. c.control.target) row.3 in
    elim (eqb_tells target 0) [
      | inl empty ↦
          let at : t.control.worker ≡ worker.Finishing = rw empty.0 at to in
          record {
            drain = record {
              busy = rw at refl;
              place = inr (at, omega (arith, waiting, total, empty.1));
              balance = omega arith;
            };
            starts = inr at;
            target_is = is;
            done_is = done;
            hand_is = hand ∙ none;
          }
      | inr some ↦
          let at : t.control.worker ≡ worker.Pulling = rw some.0 at to in
          record {
            drain = record {
              busy = rw at refl;
              place = inl (rw at refl, omega (arith, is, waiting, total), rw (at, done) (omega arith));
              balance = omega arith;
            };
            starts = inl at;
            target_is = is;
            done_is = done;
            hand_is = hand ∙ none;
          }
    ]
load_drain s (step.Offer p span) target t sound row = absurd row
load_drain s (step.Send p) target t sound row = absurd row
load_drain s (step.Undo p) target t sound row = absurd row
load_drain s (step.Ask p) target t sound row = absurd row
load_drain s (step.Post p) target t sound row = absurd row
load_drain s (step.Reset p) target t sound row = absurd row
load_drain s (step.RequestFlush p) target t sound row = absurd row
load_drain s (step.RequestShutdown p) target t sound row = absurd row
load_drain s (step.Collect p) target t sound row = absurd row
load_drain s (step.PostResource resource) target t sound row = absurd row
load_drain s step.Take target t sound row = absurd row
load_drain s step.Tick target t sound row = absurd row
load_drain s step.Clear target t sound row = absurd row
load_drain s step.Pull target t sound row = absurd row
load_drain s step.HandOver target t sound row = absurd row
load_drain s step.Subtract target t sound row = absurd row
load_drain s step.Close target t sound row = absurd row
load_drain s step.Finish target t sound row = absurd row

-- the sizes of batches, and how many spans they have
sum-sizes : (batches : List (List PlainSpanData)) → sum (map length batches) ≡ length (spans_in batches)
sum-sizes [] = refl
sum-sizes (batch ∷ batches) =
    sum-cons (length batch) (map length batches) ∙ ap (λ n. length batch + n) (sum-sizes batches)
    ∙ sym (length-append batch (spans_in batches))

-- a beginning of a list, by its length
beginning : {X : Type 0} (a r w c : List X) → a ++ r ≡ w ++ c → length w ≤ length a →
    (d : List X) × (a ≡ w ++ d)
beginning a r [] c e le = (a, refl)
beginning [] r (y ∷ ys) c e le = absurd (omega (arith, le))
beginning (z ∷ zs) r (y ∷ ys) c e le =
    let head : z ≡ y = cc in
    let tail : zs ++ r ≡ ys ++ c = cc in
    let x = beginning zs r ys c tail (omega (arith, le)) in
    (x.0, ap (λ h. h ∷ zs) head ∙ ap (λ t. y ∷ t) x.1)

-- the worker's steps accept no span
accepts_none : (h : ℕ → List PlainSpanData) (x : Step) (o : Outcome) → is_workers x ≡ true → accepts h x o ≡ []
accepts_none h (step.Send p) o own = cc
accepts_none h _ o own = refl

accepted_none : (h : ℕ → List PlainSpanData) (xs : List Step) (os : List Outcome) → AreWorkers xs →
    accepted h xs os ≡ []
accepted_none h [] os own = refl
accepted_none h (x ∷ xs) [] own = refl
accepted_none h (x ∷ xs) (o ∷ os) own =
    rw (accepts_none h x o own.0) (accepted_none (λ q. holds_after h x o q) xs os own.1)

module _ {E : Type 0} (calls : Ghosts E) where
  -- a whole drain hands over as many spans as waited at its load
  drain_run : (w given : ℕ) (m : Machine E) (xs : List Step) (os : List Outcome) (f : Machine E) →
      InDrain w given (counts m) → Run calls m xs os f → IsWholeDrain os → w ≤ given + sum (batch_sizes os)
  drain_run w given m [] [] f d run whole = absurd whole
  drain_run w given m [] (o ∷ os) f d run whole = absurd run
  drain_run w given m (x ∷ xs) [] f d run whole = absurd run
  drain_run w given m (x ∷ xs) (o ∷ os) f d run whole =
      let next = drain_step w given (counts m) x o (counts run.0) run.1.permitted d in
      let more = handed-rest o os in
      elim (whole_rest o os whole) [
        | inl last ↦
            let at_end : Outcome → Type 0 = λ v. DrainNext w (given + handed o) v (counts run.0) in
            let all : DrainNext w (given + handed o) (outcome.Finished last.0) (counts run.0) =
            subst at_end last.1 next in
            omega (arith, all, more)
        | inr (plain, rest) ↦
            let later = drain_run w (given + handed o) run.0 xs os f
            (next_in w (given + handed o) o (counts run.0) plain next) run.2 rest in
            omega (arith, later, more)
      ]

  -- what a stretch conserves, in numbers
  pub conserves-count : (s : Machine E) (spans : List PlainSpanData) (sizes : List ℕ) (t : Machine E) →
      (c : Conserves calls s spans sizes t) →
      sum sizes + (length t.hand + length t.waiting) ≡ (length s.hand + length s.waiting) + length spans
  conserves-count s spans sizes t c =
      let given : sum sizes ≡ length (spans_in c.batches) = ap sum (sym c.sized) ∙ sum-sizes c.batches in
      let both = ap length c.conserved in
      let left = length-append (spans_in c.batches) (t.hand ++ t.waiting) in
      let here = length-append t.hand t.waiting in
      let right = length-append (s.hand ++ s.waiting) spans in
      let there = length-append s.hand s.waiting in
      omega (arith, given, both, left, here, right, there)

  -- where enough was handed over, it begins with these spans
  hands_first : (s : Machine E) (first later : List PlainSpanData) (sizes : List ℕ) (t : Machine E) →
      (spans : List PlainSpanData) → (s.hand ++ s.waiting) ++ spans ≡ first ++ later → length first ≤ sum sizes →
      Conserves calls s spans sizes t → HandsOverFirst calls s first sizes t
  hands_first s first later sizes t spans parts enough c =
      let given : sum sizes ≡ length (spans_in c.batches) = ap sum (sym c.sized) ∙ sum-sizes c.batches in
      let cut = beginning (spans_in c.batches) (t.hand ++ t.waiting) first later (c.conserved ∙ parts)
      (omega (arith, given, enough)) in
      record { batches = c.batches; sized = c.sized; told = c.told; rest = cut.0; begins = cut.1 }

  -- the machine after the n-th step, which loaded a drain
  pub record AtLoad (n : ℕ) (s : Machine E) (xs : List Step) (os : List Outcome) (target : ℕ) (t : Machine E) : Type 0 where
    pub load : Machine E
    pub up_to : Run calls s (take (suc n) xs) (take (suc n) os) load
    pub after : Run calls load (drop (suc n) xs) (drop (suc n) os) t
    pub sound : IsSound (counts load)
    pub start : StartsDrain target (counts load)
    -- the step that loaded it
    pub loaded : (before : Counts) × (x : Step) × IsPermitted before x (outcome.Loaded target) (counts load)
    pub batch_same : load.control.batch_size ≡ s.control.batch_size
    pub queue_same : load.control.queue_size ≡ s.control.queue_size

  pub at_load : (n : ℕ) (s : Machine E) (xs : List Step) (os : List Outcome) (t : Machine E) (target : ℕ) →
      IsSound (counts s) → Run calls s xs os t → slice_get os n ≡ Some (outcome.Loaded target) →
      AtLoad n s xs os target t
  at_load n s [] [] t target sound run e =
      absurd (let os : List Outcome = [] in let none : slice_get os n ≡ None = refl in cc)
  at_load zero s (x ∷ xs) (o ∷ os) t target sound run e =
      let is : o ≡ outcome.Loaded target = cc in
      let row : IsPermitted (counts s) x (outcome.Loaded target) (counts run.0) = rw is at run.1.permitted in
      let begun = load_drain (counts s) x target (counts run.0) sound row in
      let leaves = permitted-leaves (counts s) x o (counts run.0) run.1.permitted in
      record {
        load = run.0;
        up_to = (run.0, run.1, refl);
        after = run.2;
        sound = run.1.sound;
        start = begun;
        loaded = (counts s, x, row);
        batch_same = leaves.batch_size;
        queue_same = leaves.queue_size;
      }
  at_load (suc n) s (x ∷ xs) (o ∷ os) t target sound run e =
      let later = at_load n run.0 xs os t target run.1.sound run.2 e in
      let leaves = permitted-leaves (counts s) x o (counts run.0) run.1.permitted in
      record {
        load = later.load;
        up_to = (run.0, run.1, later.up_to);
        after = later.after;
        sound = later.sound;
        start = later.start;
        loaded = later.loaded;
        batch_same = later.batch_same ∙ leaves.batch_size;
        queue_same = later.queue_same ∙ leaves.queue_size;
      }
  at_load n s [] (o ∷ os) t target sound run e = absurd run
  at_load n s (x ∷ xs) [] t target sound run e = absurd run

  -- every finished drain of a run that found memory is complete
  pub run-completes : (s : Machine E) (xs : List Step) (os : List Outcome) (t : Machine E) → IsSound (counts s) →
      Run calls s xs os t → CompletesDrains calls s xs os t
  run-completes s xs os t sound run n m target e whole =
      let at = at_load n s xs os t target sound run e in
      let parts = run-splits calls at.load (drop (suc n) xs) (drop (suc n) os) t m at.after in
      let sizes = batch_sizes (take m (drop (suc n) os)) in
      let earlier_sizes = batch_sizes (take (suc n) os) in
      let spans = accepted (holds_at s.control.slots) (take (suc n) xs) (take (suc n) os) in
      let more = accepted (holds_at at.load.control.slots) (take m (drop (suc n) xs)) (take m (drop (suc n) os)) in
      let enough = drain_run (length at.load.waiting) 0 at.load (take m (drop (suc n) xs)) (take m (drop (suc n) os))
      parts.0 at.start.drain parts.1 whole in
      let before = run-conserves calls s (take (suc n) xs) (take (suc n) os) at.load at.up_to in
      let during = run-conserves calls at.load (take m (drop (suc n) xs)) (take m (drop (suc n) os)) parts.0 parts.1 in
      let both = conserves_then calls s at.load parts.0 spans more earlier_sizes sizes before during in
      let none : at.load.hand ≡ [] = nil_from_length at.load.hand at.start.hand_is in
      let count = conserves-count s spans earlier_sizes at.load before in
      let there = s.hand ++ s.waiting in
      let size = length-append there spans in
      let start = length-append s.hand s.waiting in
      let sums = sum-append earlier_sizes sizes in
      let hand = at.start.hand_is in
      record {
        load = at.load;
        finish = parts.0;
        up_to = at.up_to;
        drain = parts.1;
        after = parts.2;
        waited = hands_first at.load at.load.waiting more sizes parts.0 more
            (ap (λ l. (l ++ at.load.waiting) ++ more) none) (omega (arith, enough)) during;
        earlier = hands_first s (there ++ spans) more (earlier_sizes ++ sizes) parts.0 (spans ++ more)
            (sym (append_assoc there spans more)) (omega (arith, enough, count, size, start, sums, hand)) both;
        handed = omega (arith, enough, count, sums, hand);
        alone = λ own.
            let left = conserves-count at.load more sizes parts.0 during in
            let no_more : length more ≡ 0 =
            ap length (accepted_none (holds_at at.load.control.slots) (take m (drop (suc n) xs))
            (take m (drop (suc n) os)) own) in
            record {
              hand = nil_from_length parts.0.hand (omega (arith, left, no_more, hand, enough));
              waiting = nil_from_length parts.0.waiting (omega (arith, left, no_more, hand, enough));
            };
      }
