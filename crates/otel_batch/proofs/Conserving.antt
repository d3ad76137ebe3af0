-- Along a run of the batch queue no span is lost, and each send that met a full queue is counted.
use Rattle.std.proofs.Common.{◌≡◌, ◌∙◌, ap, sym, refl, ℕ, ◌<◌, ◌^◌, List, [], ◌∷◌, ◌++◌, length, map, Option, slice_get, append_assoc, append-nil, arith}
use Rattle.std.proofs.lemmas.List.{map-append}
use Rattle.std.proofs.lemmas.List.Concat.{flat_map-append}
use Rattle.otel_export.specs.declared.error.OTelSdkError.{OTelSdkError}
use Rattle.otel_export.specs.PlainSpanData.{PlainSpanData, spans_in}
use Rattle.otel_batch.specs.Slots.{span_held}
use Rattle.otel_batch.specs.MachineState.{Machine, counts}
use Rattle.otel_batch.specs.PermittedStep.{IsPermitted}
use Rattle.otel_batch.specs.MovedSpans.{MovesSpans, Keeps, QueuesSpan, ExportsHand}
use Rattle.otel_batch.specs.MachineRun.{Run, accepted, accepts, holds_after, holds_at, batch_sizes, full_sends, counted_up}
use Rattle.otel_batch.specs.Conservation.{Conserves, IsFirst, LosesNoSpan}
use Rattle.otel_batch.specs.declared.machine.step.Outcome.{Outcome}
use Rattle.otel_batch.specs.declared.machine.step.Outcome.TheVariants as outcome
use Rattle.otel_batch.specs.declared.machine.step.Step.{Step}
use Rattle.otel_batch.specs.declared.machine.step.Step.TheVariants as step
use Rattle.otel_export.specs.declared.trace.export.SpanExporter.{Ghosts}
use Rattle.otel_export.proofs.Tellings.{tells_append, tells_same}
use Rattle.otel_batch.proofs.HeldSpanLemmas.{AreHeldIn, held_at_slots, held_at_first, permitted-holds, accepts-held}
use Rattle.otel_batch.proofs.TableFacts.{permitted-leaves, dropped_after}

-- the sizes of a step's batches stand before those of the steps after it
pub sizes-first : (o : Outcome) (os : List Outcome) → batch_sizes (o ∷ os) ≡ batch_sizes (o ∷ []) ++ batch_sizes os
sizes-first (outcome.HandedOver k e) os = refl
sizes-first _ os = refl

module _ {E : Type 0} (calls : Ghosts E) where
  -- one stretch after another
  pub conserves_then : (s m t : Machine E) (xs ys : List PlainSpanData) (js ks : List ℕ) →
      Conserves calls s xs js m → Conserves calls m ys ks t → Conserves calls s (xs ++ ys) (js ++ ks) t
  conserves_then s m t xs ys js ks first second =
      let one = spans_in first.batches in
      let two = spans_in second.batches in
      let both : spans_in (first.batches ++ second.batches) ≡ one ++ two =
      flat_map-append (λ batch. batch) first.batches second.batches in
      let there = s.hand ++ s.waiting in
      let here = t.hand ++ t.waiting in
      record {
        batches = first.batches ++ second.batches;
        sized = map-append length first.batches second.batches
            ∙ ap (λ l. l ++ map length second.batches) first.sized ∙ ap (λ l. js ++ l) second.sized;
        told = tells_append (calls.told s.exporter) first.batches (calls.told m.exporter) second.batches
            (calls.told t.exporter) first.told second.told;
        conserved = ap (λ l. l ++ here) both ∙ append_assoc one two here ∙ ap (λ l. one ++ l) second.conserved
            ∙ sym (append_assoc one (m.hand ++ m.waiting) ys) ∙ ap (λ l. l ++ ys) first.conserved
            ∙ append_assoc there xs ys;
      }

  -- where no span moves and nothing is told, nothing is accepted
  rests : (s t : Machine E) → calls.told t.exporter ≡ calls.told s.exporter →
      t.hand ++ t.waiting ≡ s.hand ++ s.waiting → Conserves calls s [] [] t
  rests s t told same = record {
    batches = [];
    sized = refl;
    told = tells_same (calls.told s.exporter) (calls.told t.exporter) told;
    conserved = same ∙ sym (append-nil (s.hand ++ s.waiting));
  }

  both_same : (s t : Machine E) → t.hand ≡ s.hand → t.waiting ≡ s.waiting →
      t.hand ++ t.waiting ≡ s.hand ++ s.waiting
  both_same s t hand waiting = ap (λ l. l ++ t.waiting) hand ∙ ap (λ l. s.hand ++ l) waiting

  keeps-conserves : (s t : Machine E) → Keeps s t → Conserves calls s [] [] t
  keeps-conserves s t k = rests s t (ap calls.told k.exporter) (both_same s t k.hand k.waiting)

  queues-conserves : (s : Machine E) (p : ℕ) (t : Machine E) → QueuesSpan s p t →
      Conserves calls s (holds_at s.control.slots p) [] t
  queues-conserves s p t k =
      let span = span_held (slice_get s.control.slots p) in
      record {
        batches = [];
        sized = refl;
        told = tells_same (calls.told s.exporter) (calls.told t.exporter) (ap calls.told k.exporter);
        conserved = ap (λ l. l ++ t.waiting) k.hand ∙ ap (λ l. s.hand ++ l) k.waiting
            ∙ sym (append_assoc s.hand s.waiting span);
      }

  exports-conserves : (s t : Machine E) (k : ℕ) (e : Option OTelSdkError) → k ≡ length s.hand →
      ExportsHand calls s e t → Conserves calls s [] (k ∷ []) t
  exports-conserves s t k e size moved =
      let one : spans_in (s.hand ∷ []) ≡ s.hand = append-nil s.hand in
      record {
        batches = s.hand ∷ [];
        sized = ap (λ n. n ∷ []) (sym size);
        told = moved.told;
        conserved = ap (λ l. l ++ (t.hand ++ t.waiting)) one
            ∙ ap (λ l. s.hand ++ l) (ap (λ l. l ++ t.waiting) moved.hand ∙ moved.waiting)
            ∙ sym (append-nil (s.hand ++ s.waiting));
      }

  -- one step loses no span
  pub moved-conserves : (s : Machine E) (x : Step) (o : Outcome) (t : Machine E) →
      IsPermitted (counts s) x o (counts t) → MovesSpans calls s x o t →
      Conserves calls s (accepts (holds_at s.control.slots) x o) (batch_sizes (o ∷ [])) t
  moved-conserves s (step.Send p) outcome.Accepted t row m = queues-conserves s p t m
  moved-conserves s step.Pull outcome.Pulled t row m = rests s t (ap calls.told m.exporter) m.both
  moved-conserves s step.HandOver (outcome.HandedOver k e) t row m = exports-conserves s t k e row.1 m
  moved-conserves s (step.Offer p span) (outcome.HandedOver k e) t row m = absurd row
  moved-conserves s (step.Send p) (outcome.HandedOver k e) t row m = absurd row
  moved-conserves s (step.Undo p) (outcome.HandedOver k e) t row m = absurd row
  moved-conserves s (step.Ask p) (outcome.HandedOver k e) t row m = absurd row
  moved-conserves s (step.Post p) (outcome.HandedOver k e) t row m = absurd row
  moved-conserves s (step.Reset p) (outcome.HandedOver k e) t row m = absurd row
  moved-conserves s (step.RequestFlush p) (outcome.HandedOver k e) t row m = absurd row
  moved-conserves s (step.RequestShutdown p) (outcome.HandedOver k e) t row m = absurd row
  moved-conserves s (step.Collect p) (outcome.HandedOver k e) t row m = absurd row
  moved-conserves s (step.PostResource r) (outcome.HandedOver k e) t row m = absurd row
  moved-conserves s step.Take (outcome.HandedOver k e) t row m = absurd row
  moved-conserves s step.Tick (outcome.HandedOver k e) t row m = absurd row
  moved-conserves s step.Clear (outcome.HandedOver k e) t row m = absurd row
  moved-conserves s step.Load (outcome.HandedOver k e) t row m = absurd row
  moved-conserves s step.Pull (outcome.HandedOver k e) t row m = absurd row
  moved-conserves s step.Subtract (outcome.HandedOver k e) t row m = absurd row
  moved-conserves s step.Finish (outcome.HandedOver k e) t row m = absurd row
  moved-conserves s step.Close (outcome.HandedOver k e) t row m = absurd row
  moved-conserves s step.Take outcome.TookResource t row m = rests s t m.told (both_same s t m.hand m.waiting)
  moved-conserves s step.Close (outcome.ShutDown n) t row m = rests s t m.told (both_same s t m.hand m.waiting)
  moved-conserves s _ _ t row m = keeps-conserves s t m

  -- a run loses no span, where the producers hold at its start what they are said to hold
  pub run-conserves_from : (h : ℕ → List PlainSpanData) (s : Machine E) (xs : List Step) (os : List Outcome)
      (t : Machine E) → AreHeldIn h s.control.slots → Run calls s xs os t →
      Conserves calls s (accepted h xs os) (batch_sizes os) t
  run-conserves_from h s [] [] t a run = rests s t (ap (λ m. calls.told m.exporter) run)
      (both_same s t (ap (λ m. m.hand) run) (ap (λ m. m.waiting) run))
  run-conserves_from h s (x ∷ xs) (o ∷ os) t a run =
      let between = run.0 in
      let row = run.1.permitted in
      let are_held = permitted-holds h (counts s) x o (counts between) row a in
      let rest = run-conserves_from (λ q. holds_after h x o q) between xs os t are_held run.2 in
      rw (← accepts-held h (counts s) x o (counts between) row a, sizes-first o os)
      (conserves_then s between t (accepts (holds_at s.control.slots) x o) (accepted (λ q. holds_after h x o q) xs os)
      (batch_sizes (o ∷ [])) (batch_sizes os) (moved-conserves s x o between row run.1.moved) rest)
  run-conserves_from h s [] (o ∷ os) t a run = absurd run
  run-conserves_from h s (x ∷ xs) [] t a run = absurd run

  -- a run from any machine
  pub run-conserves : (s : Machine E) (xs : List Step) (os : List Outcome) (t : Machine E) → Run calls s xs os t →
      Conserves calls s (accepted (holds_at s.control.slots) xs os) (batch_sizes os) t
  run-conserves s xs os t run =
      run-conserves_from (holds_at s.control.slots) s xs os t (held_at_slots s.control.slots) run

  -- a run from a new machine
  pub run-loses_none : (s : Machine E) (xs : List Step) (os : List Outcome) (t : Machine E) → IsFirst s →
      Run calls s xs os t → LosesNoSpan calls s xs os t
  run-loses_none s xs os t first run =
      let a : AreHeldIn (λ p. []) s.control.slots =
      rw (ap (λ m. m.control.slots) first.made) (held_at_first first.producers) in
      let c = run-conserves_from (λ p. []) s xs os t a run in
      let none : s.hand ++ s.waiting ≡ [] =
      ap (λ l. l ++ s.waiting) (ap (λ m. m.hand) first.made) ∙ ap (λ m. m.waiting) first.made in
      record {
        batches = c.batches;
        sized = c.sized;
        told = c.told;
        conserved = sym (c.conserved ∙ ap (λ l. l ++ accepted (λ p. []) xs os) none);
      }

-- a step's dropped count, with those of the steps after it
counts_full : (x : Step) (o : Outcome) (xs : List Step) (os : List Outcome) (dropped : ℕ) →
    counted_up (dropped_after x o dropped) (full_sends xs os) ≡ counted_up dropped (full_sends (x ∷ xs) (o ∷ os))
counts_full (step.Send p) outcome.Full xs os dropped = omega arith
counts_full _ _ xs os dropped = refl

-- a run counts the sends that met a full queue
pub run-drops : {E : Type 0} (calls : Ghosts E) (s : Machine E) (xs : List Step) (os : List Outcome) (t : Machine E) →
    s.control.dropped < 2 ^ 64 → Run calls s xs os t →
    t.control.dropped ≡ counted_up s.control.dropped (full_sends xs os)
run-drops calls s [] [] t fits run =
    let same : t.control.dropped ≡ s.control.dropped = ap (λ m. m.control.dropped) run in
    omega (arith, same, fits)
run-drops calls s (x ∷ xs) (o ∷ os) t fits run =
    let leaves = permitted-leaves (counts s) x o (counts run.0) run.1.permitted in
    run-drops calls run.0 xs os t run.1.sound.fits.dropped_fits run.2
    ∙ ap (λ d. counted_up d (full_sends xs os)) leaves.dropped
    ∙ counts_full x o xs os s.control.dropped
run-drops calls s [] (o ∷ os) t fits run = absurd run
run-drops calls s (x ∷ xs) [] t fits run = absurd run
