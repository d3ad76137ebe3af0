-- What the worker's run leaves: what was heard, what was dropped, and a queue at rest.
use Rattle.std.proofs.Common.{◌≡◌, ◌⊎◌, ◌∙◌, inl, inr, refl, ap, sym, ℕ, zero, suc, ◌||◌, ◌&&◌, ◌==◌, Bool, true, false, List, [], ◌∷◌, ◌++◌, Option, Some, None, length, slice_get, append_assoc, append-nil, arith}
use Rattle.std.proofs.lemmas.Bool.Decides.{eqb_tells}
use Rattle.std.proofs.lemmas.List.{nil_from_length}
use Rattle.std.proofs.lemmas.List.Concat.{flat_map-append}
use Rattle.otel_export.specs.declared.error.OTelSdkError.{OTelSdkError}
use Rattle.otel_export.specs.PlainSpanData.{PlainSpanData, spans_in}
use Rattle.otel_export.specs.Telling.{Tells, and_then_told}
use Rattle.otel_pipeline.specs.ProcessorTelling.{spans_told}
use Rattle.otel_batch.specs.Slots.{is_answered, slot_waits}
use Rattle.otel_batch.specs.Workers.{is_ready, is_gone, is_filling, worker_names, why_names}
use Rattle.otel_batch.specs.MachineState.{Control, Machine, Counts, counts, slot_at}
use Rattle.otel_batch.specs.SoundMachine.{IsSound}
use Rattle.otel_batch.specs.MachineRun.{accepts, batch_sizes, holds_at}
use Rattle.otel_batch.specs.Conservation.{Conserves}
use Rattle.otel_batch.specs.WorkerSteps.{TakeRow, ClearRow, LoadRow, PullRow, HandOverRow, SubtractRow}
use Rattle.otel_batch.specs.DrainEnds.{FinishRow, FinishRowFor}
use Rattle.otel_batch.specs.PermittedStep.{IsPermitted}
use Rattle.otel_batch.specs.GoingOn.{next_step}
use Rattle.otel_batch.specs.declared.machine.state.Request.{Request}
use Rattle.otel_batch.specs.declared.machine.state.Slot.TheVariants as slot
use Rattle.otel_batch.specs.declared.machine.state.Worker.{Worker}
use Rattle.otel_batch.specs.declared.machine.state.Worker.TheVariants as worker
use Rattle.otel_batch.specs.declared.machine.state.Why.{Why}
use Rattle.otel_batch.specs.declared.machine.state.Why.TheVariants as why
use Rattle.otel_batch.specs.declared.machine.step.Outcome.{Outcome}
use Rattle.otel_batch.specs.declared.machine.step.Outcome.TheVariants as outcome
use Rattle.otel_batch.specs.declared.machine.step.Step.{Step}
use Rattle.otel_export.specs.declared.trace.export.SpanExporter.{Ghosts}
use Rattle.otel_batch.proofs.Conserving.{moved-conserves, conserves_then}
use Rattle.otel_batch.proofs.SlotSums.{one_flush, one_shutdown}
use Rattle.otel_batch.proofs.TableFacts.{dropped_after, permitted-leaves}
use Rattle.otel_batch.specs.WorkedOff.{GoesBy, is_idle_worker, next_of_worker}
use Rattle.otel_processors.proofs.Worker.{has_next, next_permitted}

-- the worker's steps accept no span and count no drop
next_accepts : (h : ℕ → List PlainSpanData) (w : Worker) (o : Outcome) → accepts h (next_step w) o ≡ []
next_accepts h worker.Ready o = refl
next_accepts h worker.Clearing o = refl
next_accepts h (worker.Loading y) o = refl
next_accepts h worker.Pulling o = refl
next_accepts h worker.Handing o = refl
next_accepts h (worker.Subtracting k) o = refl
next_accepts h worker.Finishing o = refl
next_accepts h (worker.Closing p) o = refl
next_accepts h worker.Gone o = refl

next_drops : (w : Worker) (o : Outcome) (dropped : ℕ) → dropped_after (next_step w) o dropped ≡ dropped
next_drops worker.Ready o dropped = refl
next_drops worker.Clearing o dropped = refl
next_drops (worker.Loading y) o dropped = refl
next_drops worker.Pulling o dropped = refl
next_drops worker.Handing o dropped = refl
next_drops (worker.Subtracting k) o dropped = refl
next_drops worker.Finishing o dropped = refl
next_drops (worker.Closing p) o dropped = refl
next_drops worker.Gone o dropped = refl

-- the worker hands over what was in hand and waited, in order, and nothing else; it counts no drop
pub record HandsOn {E : Type 0} (calls : Ghosts E) (s t : Machine E) : Type 0 where
  pub sizes : List ℕ
  pub conserves : Conserves calls s [] sizes t
  pub dropped : t.control.dropped ≡ s.control.dropped

-- the spans that an exporter tells, followed by those that wait
abbrev pub heard_in : {E : Type 0} → Ghosts E → Machine E → Option (List PlainSpanData)
heard_in calls m = and_then_told (spans_told (calls.told m.exporter)) m.waiting

tells_on : (before : Option (List (List PlainSpanData))) (batches : List (List PlainSpanData))
    (after : Option (List (List PlainSpanData))) (waited waiting : List PlainSpanData) → Tells before batches after →
    spans_in batches ++ waiting ≡ waited →
    Tells (and_then_told (spans_told before) waited) [] (and_then_told (spans_told after) waiting)
tells_on before batches None waited waiting told same = tt
tells_on None batches (Some after) waited waiting told same = absurd (let no : None ≡ Some after = told in cc)
tells_on (Some before) batches (Some after) waited waiting told same =
    let is : before ++ batches ≡ after = cc in
    let spans : spans_in after ≡ spans_in before ++ spans_in batches =
    ap spans_in (sym is) ∙ flat_map-append (λ batch. batch) before batches in
    ap (λ l. Some l) (append-nil (spans_in before ++ waited)
    ∙ ap (λ l. spans_in before ++ l) (sym same)
    ∙ sym (append_assoc (spans_in before) (spans_in batches) waiting)
    ∙ ap (λ l. l ++ waiting) (sym spans))

module _ {E : Type 0} (calls : Ghosts E) where
  pub goes_hands_on : (s : Machine E) (xs : List Step) (os : List Outcome) (t : Machine E) →
      GoesBy calls next_of_worker s xs os t → HandsOn calls s t
  goes_hands_on s [] [] t goes = rw goes (record {
    sizes = [];
    conserves = record { batches = []; sized = refl; told = stays (calls.told s.exporter); conserved = sym (append-nil (s.hand ++ s.waiting)) };
    dropped = refl;
  })
    where
      stays : (told : Option (List (List PlainSpanData))) → Tells told [] told
      stays None = tt
      stays (Some l) = ap (λ k. Some k) (append-nil l)
  goes_hands_on s (x ∷ xs) (o ∷ os) t goes =
      let m = goes.1 in
      let has = has_next s.control x goes.0 in
      let row = next_permitted calls s x o m has goes.2 in
      let one : Conserves calls s [] (batch_sizes (o ∷ [])) m =
      rw (next_accepts (holds_at s.control.slots) s.control.worker o) at
      (moved-conserves calls s (next_step s.control.worker) o m row (rw has.is at goes.2.moved)) in
      let rest = goes_hands_on m xs os t goes.3 in
      record {
        sizes = batch_sizes (o ∷ []) ++ rest.sizes;
        conserves = conserves_then calls s m t [] [] (batch_sizes (o ∷ [])) rest.sizes one rest.conserves;
        dropped = rest.dropped ∙ ((permitted-leaves (counts s) (next_step s.control.worker) o (counts m) row).dropped
            ∙ next_drops s.control.worker o s.control.dropped);
      }
  goes_hands_on s [] (o ∷ os) t goes = absurd goes
  goes_hands_on s (x ∷ xs) [] t goes = absurd goes

  -- so nothing more is heard, and the telling may end
  pub hands_on_told : (s t : Machine E) → s.hand ≡ [] → t.hand ≡ [] → HandsOn calls s t →
      Tells (heard_in calls s) [] (heard_in calls t)
  hands_on_told s t empty emptied on =
      let c = on.conserves in
      let same : spans_in c.batches ++ t.waiting ≡ s.waiting =
      ap (λ l. spans_in c.batches ++ (l ++ t.waiting)) (sym emptied)
      ∙ c.conserved ∙ append-nil (s.hand ++ s.waiting) ∙ ap (λ l. l ++ s.waiting) empty in
      tells_on (calls.told s.exporter) c.batches (calls.told t.exporter) s.waiting t.waiting c.told same

  -- who waits goes on waiting, or is answered
  pub goes_on_waiting : (s : Machine E) (xs : List Step) (os : List Outcome) (t : Machine E) (request : Request) →
      slot_at (counts s) 0 ≡ Some (slot.Waiting request) → GoesBy calls next_of_worker s xs os t →
      (slot_at (counts t) 0 ≡ Some (slot.Waiting request)) ⊎ (is_answered (slot_at (counts t) 0) ≡ true)
  goes_on_waiting s [] [] t request waits goes = inl (rw goes waits)
  goes_on_waiting s (x ∷ xs) (o ∷ os) t request waits goes = elim (goes.2.requests.each 0 request waits) [
    | inl still ↦ goes_on_waiting goes.1 xs os t request still goes.3
    | inr answered ↦ inr (ends xs os goes.3 answered.0)
  ]
    where
      ends : (ys : List Step) (ps : List Outcome) → GoesBy calls next_of_worker goes.1 ys ps t →
          is_answered (slot_at (counts goes.1) 0) ≡ true → is_answered (slot_at (counts t) 0) ≡ true
      ends [] [] rest found = rw rest found
      ends (y ∷ ys) (p ∷ ps) rest found =
          absurd (let no = (has_next goes.1.control y rest.0).unanswered in cc)
      ends [] (p ∷ ps) rest found = absurd rest
      ends (y ∷ ys) [] rest found = absurd rest
  goes_on_waiting s [] (o ∷ os) t request waits goes = absurd goes
  goes_on_waiting s (x ∷ xs) [] t request waits goes = absurd goes

-- the worker is at no request where the only producer waits for none
none_named : (s : Counts) → IsSound s → s.control.slots ≡ slot.Idle ∷ [] → (p : ℕ) →
    worker_names p s.control.why s.control.worker ≡ 0
none_named s sound idle p =
    let each = sound.awaited.each p in
    let none : slot_waits (slice_get s.control.slots p) ≡ 0 = rw idle (at p) in
    omega (arith, each, none)
  where
    at : (q : ℕ) → slot_waits (slice_get (slot.Idle ∷ []) q) ≡ 0
    at zero = refl
    at (suc q) = refl

-- a step of the worker leaves an idle producer idle, and the queue open or closed
pub record LeavesIdle (s t : Counts) : Type 0 where
  pub slots : t.control.slots ≡ s.control.slots
  pub closed : t.control.closed ≡ s.control.closed

leaves : (s t next : Counts) → t ≡ next → next.control.slots ≡ s.control.slots →
    next.control.closed ≡ s.control.closed → LeavesIdle s t
leaves s t next is slots closed =
    record { slots = ap (λ c. c.control.slots) is ∙ slots; closed = ap (λ c. c.control.closed) is ∙ closed }

take_leaves : (s : Counts) (o : Outcome) (t : Counts) → TakeRow s o t → LeavesIdle s t
take_leaves s outcome.Nothing t row = leaves s t _ row.2 refl refl
take_leaves s outcome.NotEnabled t row = leaves s t _ row.1 refl refl
take_leaves s outcome.TookExport t row = leaves s t _ row.2 refl refl
take_leaves s (outcome.TookFlush p) t row = leaves s t _ row.2 refl refl
take_leaves s (outcome.TookShutdown p) t row = leaves s t _ row.2 refl refl
take_leaves s outcome.TookResource t row = leaves s t _ row.2 refl refl
take_leaves s _ t row = absurd row

clear_leaves : (s : Counts) (o : Outcome) (t : Counts) → ClearRow s o t → LeavesIdle s t
clear_leaves s outcome.Cleared t row = leaves s t _ row.1 refl refl
clear_leaves s outcome.NotEnabled t row = leaves s t _ row.1 refl refl
clear_leaves s _ t row = absurd row

load_leaves : (s : Counts) (o : Outcome) (t : Counts) → LoadRow s o t → LeavesIdle s t
load_leaves s (outcome.Loaded n) t row = leaves s t _ row.3 refl refl
load_leaves s outcome.NotEnabled t row = leaves s t _ row.1 refl refl
load_leaves s _ t row = absurd row

pull_leaves : (s : Counts) (o : Outcome) (t : Counts) → PullRow s o t → LeavesIdle s t
pull_leaves s outcome.Empty t row = leaves s t _ row.2 refl refl
pull_leaves s outcome.NoMemory t row = leaves s t _ row.3 refl refl
pull_leaves s outcome.Pulled t row = leaves s t _ row.2 refl refl
pull_leaves s outcome.NotEnabled t row = leaves s t _ row.1 refl refl
pull_leaves s _ t row = absurd row

hand_over_leaves : (s : Counts) (o : Outcome) (t : Counts) → HandOverRow s o t → LeavesIdle s t
hand_over_leaves s (outcome.HandedOver k e) t row = leaves s t _ row.3 refl refl
hand_over_leaves s outcome.NotEnabled t row = leaves s t _ row.1 refl refl
hand_over_leaves s _ t row = absurd row

subtract_leaves : (s : Counts) (o : Outcome) (t : Counts) → SubtractRow s o t → LeavesIdle s t
subtract_leaves s outcome.Subtracted t row = leaves s t _ row.2 refl refl
subtract_leaves s outcome.NotEnabled t row = leaves s t _ row.1 refl refl
subtract_leaves s _ t row = absurd row

finish_leaves_for : (y : Why) (s : Counts) (e : Option OTelSdkError) (t : Counts) →
    ((p : ℕ) → why_names p y ≡ 0) → FinishRowFor y s e t → LeavesIdle s t
finish_leaves_for why.Asked s e t none row = leaves s t _ row.1 refl refl
finish_leaves_for why.Timer s e t none row = leaves s t _ row.1 refl refl
finish_leaves_for (why.Flush p) s e t none row = absurd (omega (arith, none p, one_flush p))
finish_leaves_for (why.Shutdown p) s e t none row = absurd (omega (arith, none p, one_shutdown p))

finish_leaves : (s : Counts) (o : Outcome) (t : Counts) →
    ((p : ℕ) → worker_names p s.control.why s.control.worker ≡ 0) → FinishRow s o t → LeavesIdle s t
finish_leaves s (outcome.Finished e) t none row = finish_leaves_for s.control.why s e t
    (λ p. let at : worker_names p s.control.why s.control.worker ≡ why_names p s.control.why = rw row.0 refl in
    omega (arith, at, none p)) row.1
finish_leaves s outcome.NotEnabled t none row = leaves s t _ row.1 refl refl
finish_leaves s _ t none row = absurd row

next_leaves : (w : Worker) (s : Counts) (o : Outcome) (t : Counts) → s.control.worker ≡ w →
    ((p : ℕ) → worker_names p s.control.why s.control.worker ≡ 0) → IsPermitted s (next_step w) o t → LeavesIdle s t
next_leaves worker.Ready s o t is none row = take_leaves s o t row
next_leaves worker.Clearing s o t is none row = clear_leaves s o t row
next_leaves (worker.Loading y) s o t is none row = load_leaves s o t row
next_leaves worker.Pulling s o t is none row = pull_leaves s o t row
next_leaves worker.Handing s o t is none row = hand_over_leaves s o t row
next_leaves (worker.Subtracting k) s o t is none row = subtract_leaves s o t row
next_leaves worker.Finishing s o t is none row = finish_leaves s o t none row
next_leaves (worker.Closing p) s o t is none row = elim (eqb_tells p p) [
  | inl same ↦ absurd (let one : worker_names p s.control.why s.control.worker ≡ 1 = rw (is, same.0) refl in omega (arith, none p, one))
  | inr other ↦ absurd (other.1 refl)
]
next_leaves worker.Gone s o t is none row = take_leaves s o t row

module _ {E : Type 0} (calls : Ghosts E) where
  -- so it is all along the worker's run
  pub goes_idle : (s : Machine E) (xs : List Step) (os : List Outcome) (t : Machine E) → IsSound (counts s) →
      s.control.slots ≡ slot.Idle ∷ [] → GoesBy calls next_of_worker s xs os t → LeavesIdle (counts s) (counts t)
  goes_idle s [] [] t sound idle goes = record { slots = ap (λ m. m.control.slots) goes; closed = ap (λ m. m.control.closed) goes }
  goes_idle s (x ∷ xs) (o ∷ os) t sound idle goes =
      let m = goes.1 in
      let has = has_next s.control x goes.0 in
      let first = next_leaves s.control.worker (counts s) o (counts m) refl (none_named (counts s) sound idle)
      (next_permitted calls s x o m has goes.2) in
      let rest = goes_idle m xs os t goes.2.sound (first.slots ∙ idle) goes.3 in
      record { slots = rest.slots ∙ first.slots; closed = rest.closed ∙ first.closed }
  goes_idle s [] (o ∷ os) t sound idle goes = absurd goes
  goes_idle s (x ∷ xs) [] t sound idle goes = absurd goes

-- a worker at rest has nothing in its hand
pub rest_empty : {E : Type 0} (m : Machine E) → IsSound (counts m) →
    is_ready m.control.worker || is_gone m.control.worker ≡ true → m.hand ≡ []
rest_empty m sound rests =
    nil_from_length m.hand (sound.drain.hand_empty (fills_none m.control.worker rests))
  where
    fills_none : (w : Worker) → is_ready w || is_gone w ≡ true → is_filling w ≡ false
    fills_none worker.Ready h = refl
    fills_none worker.Gone h = refl
    fills_none worker.Clearing h = refl
    fills_none (worker.Loading y) h = refl
    fills_none worker.Pulling h = absurd (cc)
    fills_none worker.Handing h = absurd (cc)
    fills_none (worker.Subtracting k) h = refl
    fills_none worker.Finishing h = refl
    fills_none (worker.Closing p) h = refl

-- a worker with nothing to do is at rest
pub idle_rests : (c : Control) → is_idle_worker c ≡ true → is_ready c.worker || is_gone c.worker ≡ true
idle_rests c idle = by_worker (is_ready c.worker) (is_gone c.worker) (length c.messages == 0) idle
  where
    by_worker : (ready gone empty : Bool) → (gone || ready && empty) ≡ true → (ready || gone) ≡ true
    by_worker true gone empty h = refl
    by_worker false true empty h = refl
    by_worker false false empty h = absurd (cc)
