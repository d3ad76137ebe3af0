-- What a call tells: nothing more where the queue is at rest again, and the span where one ends.
use Rattle.std.proofs.Common.{◌≡◌, ◌∙◌, inl, inr, refl, ap, sym, ℕ, ◌<◌, ◌^◌, ◌&&◌, not, Bool, true, false, List, [], ◌∷◌, ◌++◌, Option, Some, None, Ok, append_assoc, append-nil, arith}
use Rattle.std.specs.Bool.{IsTrue}
use Rattle.std.specs.declared.alloc.AllocError.{AllocError}
use Rattle.otel_export.specs.PlainSpanData.{PlainSpanData, is_sampled}
use Rattle.otel_export.specs.StoredBatches.{one_more}
use Rattle.otel_export.specs.Telling.{Tells, and_then_told}
use Rattle.otel_pipeline.specs.ProcessorTelling.{ProcessorTelling, CountsUp, HandsOver, HearsNothing, TakesNothing, TakesSpan, spans_told}
use Rattle.otel_batch.specs.MachineState.{Machine, counts}
use Rattle.otel_batch.specs.SoundMachine.{IsSound}
use Rattle.otel_export.specs.declared.trace.export.SpanExporter.{Ghosts}
use Rattle.otel_processors.specs.QueueRequests.{IsAtRest, queue_telling}
use Rattle.otel_processors.proofs.Ending.{EndsIdle, QueuesNone, SpanGoes}
use Rattle.otel_processors.proofs.RestsAgainLemmas.{RestsAgain}

-- a telling to which nothing was told
pub takes_none : (t : ProcessorTelling) → TakesNothing t t
takes_none t = record { spans = refl; heard = same t.heard; dropped = refl; takes_all = refl; never_reopens = λ h. h }
  where
    same : (told : Option (List PlainSpanData)) → Tells told [] told
    same None = tt
    same (Some l) = ap (λ k. Some k) (append-nil l)

module _ {E : Type 0} (calls : Ghosts E) where
  -- no span more is told where the queue is at rest again
  pub tells_nothing : (p q : Machine E) → RestsAgain calls p q →
      (IsTrue (not q.control.closed) → IsTrue (not p.control.closed)) →
      TakesNothing (queue_telling calls p) (queue_telling calls q)
  tells_nothing p q again reopens =
      record { spans = refl; heard = again.heard; dropped = again.dropped; takes_all = refl; never_reopens = reopens }

  -- one span more is heard where it waits last
  pub heard_last : (told : Option (List PlainSpanData)) (waiting : List PlainSpanData) (span : PlainSpanData) →
      Tells (and_then_told told waiting) (span ∷ []) (and_then_told told (waiting ++ span ∷ []))
  heard_last None waiting span = tt
  heard_last (Some told) waiting span = ap (λ l. Some l) (append_assoc told waiting (span ∷ []))

  pub counts_one : (dropped : ℕ) → dropped < 2 ^ 64 → CountsUp dropped 1 (one_more dropped)
  counts_one dropped fits = record {
    no_fewer = omega (arith, fits);
    no_more = omega arith;
    exact = λ below. omega (arith, below);
    stops = λ small. omega (arith, small);
  }

  -- an ended span is heard, counted, or not due
  pub takes_span : (p q : Machine E) (span : PlainSpanData) → IsSound (counts p) →
      EndsIdle p span q →
      TakesSpan {E = AllocError} (queue_telling calls p) span (Ok (tt {0})) (queue_telling calls q)
  takes_span p q span sound ends = record {
    spans = tt;
    handed = by_state p.control.closed (is_sampled span) ends.goes ends.skips;
    not_refused = λ _. refl;
    takes_all = refl;
    is_open = ap not ends.leaves.closed;
  }
    where
      nothing : q.waiting ≡ p.waiting → q.control.dropped ≡ p.control.dropped →
          HearsNothing (queue_telling calls p) (queue_telling calls q)
      nothing waiting dropped = record { heard = rw (ends.leaves.exporter, waiting) refl; dropped = dropped }

      by_state : (closed sampled : Bool) → (sampled ≡ true → SpanGoes closed p span q) →
          (sampled ≡ false → QueuesNone p q) →
          HandsOver {E = AllocError} (not closed && sampled) (queue_telling calls p) span (Ok (tt {0})) (queue_telling calls q)
      by_state true true goes skips = nothing (goes refl).waiting (goes refl).dropped
      by_state true false goes skips = nothing (skips refl).waiting (skips refl).dropped
      by_state false false goes skips = nothing (skips refl).waiting (skips refl).dropped
      by_state false true goes skips = elim (goes refl) [
        | inl last ↦ inl (record {
          heard = rw (ends.leaves.exporter, last.waiting)
              (heard_last (spans_told (calls.told p.exporter)) p.waiting span);
          dropped = last.dropped;
        })
        | inr full ↦ inr (record {
          heard = rw (ends.leaves.exporter, full.waiting) refl;
          dropped = rw full.dropped (counts_one p.control.dropped sound.fits.dropped_fits);
        })
      ]

  -- the queue is at rest after an end
  pub ends_rest : (s t : Machine E) (span : PlainSpanData) → IsAtRest s → EndsIdle s span t → IsAtRest t
  ends_rest s t span rest ends = record {
    slots = ends.idle;
    worker = rw ends.leaves.worker rest.worker;
    hand = ends.leaves.hand ∙ rest.hand;
    left = λ shut.
        let before : s.control.closed ≡ true = sym ends.leaves.closed ∙ shut in
        still s.control.closed before (is_sampled span) refl ends.goes ∙ rest.left before;
  }
    where
      still : (closed : Bool) → closed ≡ true → (sampled : Bool) → is_sampled span ≡ sampled →
          (is_sampled span ≡ true → SpanGoes closed s span t) → t.waiting ≡ s.waiting
      still true shut true is goes = (goes is).waiting
      still true shut false is goes = (ends.skips is).waiting
      still false shut sampled is goes = absurd (cc)
