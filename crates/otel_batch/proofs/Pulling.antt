-- What the worker does where it fills its hand, as the pulls of the table that it stands for.
use Rattle.std.proofs.Common.{◌≡◌, ◌∙◌, ◌⊎◌, inl, inr, refl, sym, ap, subst, ℕ, zero, suc, ◌+◌, ◌-◌, ◌<◌, ◌≤◌, ◌==◌, ◌||◌, Bool, true, false, List, [], ◌∷◌, ◌++◌, length, take, drop, replicate, Option, Some, None, slice_get, nat_lt, if◌then◌else◌, append_assoc, append-nil, length-drop, arith}
use Rattle.std.proofs.lemmas.Bool.Decides.{eqb_tells, leb_tells}
use Rattle.std.proofs.lemmas.Grind.{common_steps}
use Rattle.std.proofs.lemmas.List.{nil_from_length}
use Rattle.otel_export.specs.declared.error.OTelSdkError.{OTelSdkError}
use Rattle.otel_export.specs.PlainSpanData.{PlainSpanData}
use Rattle.otel_export.specs.declared.trace.export.SpanExporter.{Ghosts}
use Rattle.otel_batch.specs.Slots.{is_answered}
use Rattle.otel_batch.specs.MachineState.{Control, Counts, Machine, counts, limit_of, put_worker}
use Rattle.otel_batch.specs.SoundMachine.{IsSound}
use Rattle.otel_batch.specs.WorkerSteps.{PullRow}
use Rattle.otel_batch.specs.GoingOn.{next_step}
use Rattle.otel_batch.specs.MachineRun.{IsStep}
use Rattle.otel_batch.specs.WorkedOff.{PullsBatch, is_idle_worker, last_error, next_of_worker}
use Rattle.otel_batch.specs.declared.machine.state.Worker.{Worker}
use Rattle.otel_batch.specs.declared.machine.state.Worker.TheVariants as worker
use Rattle.otel_batch.specs.declared.machine.step.Outcome.{Outcome}
use Rattle.otel_batch.specs.declared.machine.step.Outcome.TheVariants as outcome
use Rattle.otel_batch.specs.declared.machine.step.Step.TheVariants as step
use Rattle.otel_batch.proofs.SpanQueueLemmas.{first_is_some}
use Rattle.otel_batch.proofs.Soundness.{asked_worker, awaited_worker, sound_pulled}
use Rattle.otel_batch.proofs.StepLemmas.{goes_sound, stepped}

-- the worker, that pulled, hands over what it has in hand
sound_handing : (s : Counts) → s.control.worker ≡ worker.Pulling → 0 < s.hand → IsSound s →
    IsSound (record s { control = record s.control { worker = worker.Handing } })
sound_handing s pulling some h = record {
  counted = record { total = rw pulling at h.counted.total };
  asked = asked_worker _ _ _ _ _ _ (rw pulling refl) h.asked;
  drain = record {
    target_fits = h.drain.target_fits;
    done_fits = h.drain.done_fits;
    on = λ _. h.drain.on (rw pulling refl);
    hand_empty = λ f. cc;
    hand_fits = h.drain.hand_fits;
    pulling = λ f. cc;
    handing = λ _. some;
    subtracting_fits = omega arith;
  };
  awaited = awaited_worker _ _ _ _ _ _ _ (λ p. rw pulling refl) (rw pulling refl) h.awaited;
  fits = h.fits;
}

-- what the worker is at where nothing waits
hands_over : (hand : ℕ) → 0 < hand → (if hand == 0 then worker.Finishing else worker.Handing) ≡ worker.Handing
hands_over hand some = elim (eqb_tells hand 0) [
  | inl none ↦ absurd (omega (arith, none.1))
  | inr more ↦ rw more.0 refl
]

-- the next step is a pull where the worker pulls and the producer has no answer
neither : (a b : Bool) → (a || b) ≡ false → a ≡ false
neither true b e = absurd (cc)
neither false b e = refl

pull_of : (done : Bool) (w : Worker) → (if done then None else Some (next_step w)) ≡ Some step.Pull →
    (done ≡ false) × (w ≡ worker.Pulling)
pull_of true w e = absurd (let none : None ≡ Some step.Pull = e in cc)
pull_of false worker.Pulling e = (refl, refl)
pull_of false worker.Ready e = absurd (let is : Some step.Take ≡ Some step.Pull = e in cc)
pull_of false worker.Clearing e = absurd (let is : Some step.Clear ≡ Some step.Pull = e in cc)
pull_of false (worker.Loading y) e = absurd (let is : Some step.Load ≡ Some step.Pull = e in cc)
pull_of false worker.Handing e = absurd (let is : Some step.HandOver ≡ Some step.Pull = e in cc)
pull_of false (worker.Subtracting k) e = absurd (let is : Some step.Subtract ≡ Some step.Pull = e in cc)
pull_of false worker.Finishing e = absurd (let is : Some step.Finish ≡ Some step.Pull = e in cc)
pull_of false (worker.Closing p) e = absurd (let is : Some step.Close ≡ Some step.Pull = e in cc)
pull_of false worker.Gone e = absurd (let is : Some step.Take ≡ Some step.Pull = e in cc)

next_is_pull : (c : Control) → next_of_worker c ≡ Some step.Pull →
    (c.worker ≡ worker.Pulling) × (is_answered (slice_get c.slots 0) ≡ false)
next_is_pull c e =
    let is = pull_of (is_answered (slice_get c.slots 0) || is_idle_worker c) c.worker e in
    (is.1, neither (is_answered (slice_get c.slots 0)) (is_idle_worker c) is.0)

-- where nothing waits the worker no longer pulls
at_none_pulls : (hand : ℕ) → (if hand == 0 then worker.Finishing else worker.Handing) ≡ worker.Pulling → ⊥
at_none_pulls hand is = elim (eqb_tells hand 0) [
  | inl none ↦ let at : worker.Finishing ≡ worker.Pulling = rw none.0 at is in cc
  | inr some ↦ let at : worker.Handing ≡ worker.Pulling = rw some.0 at is in cc
]

-- a pull after which the worker still pulls has put a span into the hand, and changed no slot
pulls_still : (s : Counts) (o : Outcome) (t : Counts) → PullRow s o t → s.control.worker ≡ worker.Pulling →
    t.control.worker ≡ worker.Pulling → (0 < t.hand) × (t.control.slots ≡ s.control.slots)
pulls_still s outcome.Empty t row before after =
    absurd (at_none_pulls s.hand (sym (ap (λ (c : Counts). c.control.worker) row.2) ∙ after))
pulls_still s outcome.NoMemory t row before after =
    let ends : t.control.worker ≡ worker.Finishing = ap (λ (c : Counts). c.control.worker) row.3 in absurd (cc)
pulls_still s outcome.Pulled t row before after =
    let one : t.hand ≡ s.hand + 1 = ap (λ (c : Counts). c.hand) row.2 in
    (omega (arith, one), ap (λ (c : Counts). c.control.slots) row.2)
pulls_still s outcome.NotEnabled t row before after = absurd (let no : true ≡ false = rw before at row.0 in cc)
pulls_still s _ t row before after = absurd row

-- a pull finishes no drain
last_error-pull : (s : Counts) (o : Outcome) (t : Counts) → PullRow s o t → (before : Option OTelSdkError)
    (os : List Outcome) → last_error before (o ∷ os) ≡ last_error before os
last_error-pull s (outcome.Finished error) t row before os = absurd row
last_error-pull s _ t row before os = refl

-- the machine whose worker is at this, with these spans in hand and these that wait
abbrev at : {E : Type 0} → Control → E → Worker → List PlainSpanData → List PlainSpanData → Machine E
at c e w hand waiting = record { control = record c { worker = w }; hand = hand; waiting = waiting; exporter = e }

module _ {E : Type 0} (calls : Ghosts E) where
  -- one pull, after which the worker does not pull
  pub pulls_once : (s : Machine E) (o : Outcome) (t : Machine E) → next_of_worker s.control ≡ Some step.Pull →
      IsStep calls s step.Pull o t → (t.control.worker ≡ worker.Pulling → ⊥) → PullsBatch calls s t
  pulls_once s o t next pulled over = record {
    more = 0;
    outcomes = [];
    pulled = o;
    goes = (next, t, pulled, refl);
    over = λ pulls. over (next_is_pull t.control pulls).0;
    finishes_none = λ before. last_error-pull (counts s) o (counts t) pulled.permitted before [];
  }

  -- one pull, and then those of the rest
  pulls_on : (s : Machine E) (o : Outcome) (between t : Machine E) → next_of_worker s.control ≡ Some step.Pull →
      IsStep calls s step.Pull o between → PullsBatch calls between t → PullsBatch calls s t
  pulls_on s o between t next pulled rest = record {
    more = suc rest.more;
    outcomes = rest.pulled ∷ rest.outcomes;
    pulled = o;
    goes = (next, between, pulled, rest.goes);
    over = rest.over;
    finishes_none = λ before.
        last_error-pull (counts s) o (counts between) pulled.permitted before (rest.pulled ∷ rest.outcomes)
        ∙ rest.finishes_none before;
  }

module _ {E : Type 0} (calls : Ghosts E) (c : Control) (e : E)
    (unanswered : is_answered (slice_get c.slots 0) ≡ false) where
  next_at : (hand waiting : List PlainSpanData) →
      next_of_worker (at c e worker.Pulling hand waiting).control ≡ Some step.Pull
  next_at hand waiting = rw unanswered refl

  -- nothing waits
  finds_none : (hand : List PlainSpanData) → 0 < length hand → IsSound (counts (at c e worker.Pulling hand [])) →
      IsStep calls (at c e worker.Pulling hand []) step.Pull outcome.Empty (at c e worker.Handing hand [])
  finds_none hand some sound =
      let s = counts (at c e worker.Pulling hand []) in
      let ends : put_worker s worker.Handing ≡ put_worker s (if s.hand == 0 then worker.Finishing else worker.Handing) =
      ap (λ w. put_worker s w) (sym (hands_over s.hand some)) in
      stepped calls (at c e worker.Pulling hand []) step.Pull outcome.Empty (at c e worker.Handing hand []) sound
      (refl, refl, ends) (record { exporter = refl; hand = refl; waiting = refl })
      (sound_handing s refl some sound)

  -- one span is pulled
  one_more_in_hand : (hand : List PlainSpanData) (x : PlainSpanData) → length (hand ++ x ∷ []) ≡ length hand + 1
  one_more_in_hand hand x = grind (arith, common_steps)

  abbrev later : ℕ → Worker
  later hand = if nat_lt (hand + 1) (limit_of c) then worker.Pulling else worker.Handing

  after_cases : (hand : ℕ) →
      (later hand ≡ worker.Pulling) × (hand + 1 < limit_of c)
      ⊎ (later hand ≡ worker.Handing) × (limit_of c ≤ hand + 1)
  after_cases hand = elim (leb_tells (suc (hand + 1)) (limit_of c)) [
    | inl below ↦ inl (rw below.0 refl, omega (arith, below.1))
    | inr full ↦ inr (rw full.0 refl, omega (arith, full.1))
  ]

  pulls_one : (hand : List PlainSpanData) (x : PlainSpanData) (ws : List PlainSpanData) →
      IsSound (counts (at c e worker.Pulling hand (x ∷ ws))) →
      IsStep calls (at c e worker.Pulling hand (x ∷ ws)) step.Pull outcome.Pulled
      (at c e (later (length hand)) (hand ++ x ∷ []) ws)
  pulls_one hand x ws sound =
      let more = one_more_in_hand hand x in
      let one : length (x ∷ ws) ≡ length ws + 1 = omega arith in
      stepped calls (at c e worker.Pulling hand (x ∷ ws)) step.Pull outcome.Pulled
      (at c e (later (length hand)) (hand ++ x ∷ []) ws) sound (
        refl,
        one,
        ap (λ k. record {
          hand = k;
          waiting = length ws;
          control = record c { worker = later (length hand) };
        }) more,
      )
      (record { exporter = refl; both = append_assoc hand (x ∷ []) ws })
      (rw more (sound_pulled (counts (at c e worker.Pulling hand (x ∷ ws))) (later (length hand)) (length ws) refl one
      (after_cases (length hand)) sound))

  -- the last that the hand has room for
  fills : (hand : List PlainSpanData) (x : PlainSpanData) (ws : List PlainSpanData) → limit_of c ≤ length hand + 1 →
      IsSound (counts (at c e worker.Pulling hand (x ∷ ws))) →
      PullsBatch calls (at c e worker.Pulling hand (x ∷ ws)) (at c e worker.Handing (hand ++ x ∷ []) ws)
  fills hand x ws last sound =
      let full : later (length hand) ≡ worker.Handing = elim (after_cases (length hand)) [
        | inl below ↦ absurd (omega (arith, last, below.1))
        | inr full ↦ full.0
      ] in
      pulls_once calls (at c e worker.Pulling hand (x ∷ ws)) outcome.Pulled (at c e worker.Handing (hand ++ x ∷ []) ws)
      (next_at hand (x ∷ ws)) (rw full at (pulls_one hand x ws sound)) (λ on. cc)

  -- one that leaves room in the hand
  pulls_further : (hand : List PlainSpanData) (x : PlainSpanData) (ws : List PlainSpanData) →
      length hand + 1 < limit_of c → IsSound (counts (at c e worker.Pulling hand (x ∷ ws))) →
      IsStep calls (at c e worker.Pulling hand (x ∷ ws)) step.Pull outcome.Pulled
      (at c e worker.Pulling (hand ++ x ∷ []) ws)
  pulls_further hand x ws room sound =
      let on : later (length hand) ≡ worker.Pulling = elim (after_cases (length hand)) [
        | inl below ↦ below.0
        | inr full ↦ absurd (omega (arith, room, full.1))
      ] in
      rw on at (pulls_one hand x ws sound)

  -- and then these
  pulls_more : (hand : List PlainSpanData) (x : PlainSpanData) (ws taken left : List PlainSpanData) →
      length hand + 1 < limit_of c → IsSound (counts (at c e worker.Pulling hand (x ∷ ws))) →
      PullsBatch calls (at c e worker.Pulling (hand ++ x ∷ []) ws)
      (at c e worker.Handing ((hand ++ x ∷ []) ++ taken) left) →
      PullsBatch calls (at c e worker.Pulling hand (x ∷ ws)) (at c e worker.Handing (hand ++ x ∷ taken) left)
  pulls_more hand x ws taken left room sound rest =
      pulls_on calls (at c e worker.Pulling hand (x ∷ ws)) outcome.Pulled (at c e worker.Pulling (hand ++ x ∷ []) ws)
      (at c e worker.Handing (hand ++ x ∷ taken) left) (next_at hand (x ∷ ws)) (pulls_further hand x ws room sound)
      (rw (append_assoc hand (x ∷ []) taken) at rest)

  -- and so on, until the hand is full or none waits
  pulls_all : (ws hand : List PlainSpanData) (n : ℕ) → 0 < length hand → length hand + suc n ≡ limit_of c →
      IsSound (counts (at c e worker.Pulling hand ws)) →
      PullsBatch calls (at c e worker.Pulling hand ws)
      (at c e worker.Handing (hand ++ take (suc n) ws) (drop (suc n) ws))
  pulls_all [] hand n some room sound =
      rw append-nil (pulls_once calls (at c e worker.Pulling hand []) outcome.Empty (at c e worker.Handing hand [])
      (next_at hand []) (finds_none hand some sound) (λ on. cc))
  pulls_all (x ∷ ws) hand zero some room sound = fills hand x ws (omega arith) sound
  pulls_all (x ∷ ws) hand (suc m) some room sound =
      let more = one_more_in_hand hand x in
      pulls_more hand x ws (take (suc m) ws) (drop (suc m) ws) (omega arith) sound
      (pulls_all ws (hand ++ x ∷ []) m (omega (arith, more)) (omega (arith, more, room))
      (pulls_further hand x ws (omega arith) sound).sound)

  pulls_so_many : (ws hand : List PlainSpanData) (k : ℕ) → 0 < length hand → 0 < k →
      length hand + k ≡ limit_of c → IsSound (counts (at c e worker.Pulling hand ws)) →
      PullsBatch calls (at c e worker.Pulling hand ws) (at c e worker.Handing (hand ++ take k ws) (drop k ws))
  pulls_so_many ws hand zero some more room sound = absurd (omega arith)
  pulls_so_many ws hand (suc n) some more room sound = pulls_all ws hand n some room sound

-- the machine after so many pulls, the last of which filled the hand or found none that waits
abbrev pub filled : {E : Type 0} → ℕ → Machine E → Machine E
filled k m = at m.control m.exporter worker.Handing (m.hand ++ take k m.waiting) (drop k m.waiting)

-- one pull, after which the worker still pulls, and all that its hand has room for
pub pulls_full : {E : Type 0} (calls : Ghosts E) (s : Machine E) (o : Outcome) (m : Machine E) (k : ℕ) →
    next_of_worker s.control ≡ Some step.Pull → IsStep calls s step.Pull o m → m.control.worker ≡ worker.Pulling →
    k ≡ limit_of m.control - length m.hand → PullsBatch calls s (filled k m)
pulls_full calls s o m k next first pulls room =
    let was = next_is_pull s.control next in
    let still = pulls_still (counts s) o (counts m) first.permitted was.0 pulls in
    let below : length m.hand < limit_of m.control = first.sound.drain.pulling (rw pulls refl) still.0 in
    let is : m ≡ at m.control m.exporter worker.Pulling m.hand m.waiting =
    ap (λ w. record m { control = record m.control { worker = w } }) pulls in
    let rest = pulls_so_many calls m.control m.exporter (rw still.1 was.1) m.waiting m.hand k still.0 (omega arith)
    (omega arith) (subst (λ n. IsSound (counts n)) is first.sound) in
    pulls_on calls s o m (filled k m) next first (subst (λ n. PullsBatch calls n (filled k m)) (sym is) rest)

-- a batch that is pulled leaves a sound machine
pub pulls_sound : {E : Type 0} (calls : Ghosts E) (s t : Machine E) → IsSound (counts s) → PullsBatch calls s t →
    IsSound (counts t)
pulls_sound calls s t sound pulls =
    goes_sound calls next_of_worker s (step.Pull ∷ replicate pulls.more step.Pull) (pulls.pulled ∷ pulls.outcomes) t
    sound pulls.goes

-- the first item after so many
pub next_item : {X : Type 0} (xs : List X) (i : ℕ) (x : X) → slice_get (drop i xs) 0 ≡ Some x →
    (take (suc i) xs ≡ take i xs ++ x ∷ []) × (drop 1 (drop i xs) ≡ drop (suc i) xs)
next_item [] zero x e = absurd (let no : None ≡ Some x = e in cc)
next_item [] (suc i) x e = absurd (let no : None ≡ Some x = e in cc)
next_item (y ∷ ys) zero x e = let is : y ≡ x = cc in (ap (λ z. z ∷ []) is, refl)
next_item (y ∷ ys) (suc i) x e = let rest = next_item ys i x e in (ap (λ l. y ∷ l) rest.0, rest.1)

pub no_item : {X : Type 0} (xs : List X) (i n : ℕ) → slice_get (drop i xs) 0 ≡ None → i ≤ n →
    (drop 1 (drop i xs) ≡ []) × (drop n xs ≡ [])
no_item xs i n none le =
    let few : length xs ≤ i = elim (leb_tells (length xs) i) [
      | inl yes' ↦ yes'.1
      | inr more ↦ absurd (first_is_some (drop i xs) (omega (arith, more.1, length-drop i xs)) none)
    ] in (
      nil_from_length (drop 1 (drop i xs)) (omega (arith, length-drop 1 (drop i xs), length-drop i xs)),
      nil_from_length (drop n xs) (omega (arith, length-drop n xs)),
    )
