-- What an end at a batch processor does. One that only queues its span drops none where the processor is eager: the span
-- is not sampled, or the queue closed.
use Rattle.std.proofs.Common.{◌≡◌, refl, ap, ℕ, ◌&&◌, not, Bool, true, false, Ok}
use Rattle.otel_export.specs.PlainSpanData.{PlainSpanData, is_sampled}
use Rattle.otel_batch.specs.MachineState.{Machine}
use Rattle.otel_export.specs.declared.trace.export.SpanExporter.{Ghosts}
use Rattle.otel_batch.specs.WorkedOff.{OffersSpan}
use Rattle.otel_batch.specs.MachineRun.{counted_up}
use Rattle.otel_processors.specs.BatchProcessor.{BatchEnds, BatchProcessor, ends_eagerly}
use Rattle.otel_processors.specs.EagerExports.{EndsBatch}
use Rattle.otel_processors.specs.QueueRequests.{IsAtRest}
use Rattle.otel_processors.proofs.Eager.{offer_ends, offer_sizes, same_largest}
use Rattle.otel_processors.proofs.Ending.{EndsIdle, QueuesNone, SpanGoes}
use Rattle.otel_processors.proofs.Failing.{counted_since, refused_ends_fail}

where_shut : {E : Type 0} (s : Machine E) (span : PlainSpanData) (t : Machine E) (shut : Bool) → shut ≡ true →
    SpanGoes shut s span t → QueuesNone s t
where_shut s span t true e goes = goes
where_shut s span t false e goes = absurd (cc)

-- a span that is not due is not dropped
undue_drops_none : {E : Type 0} (s : Machine E) (span : PlainSpanData) (t : Machine E) (shut sampled : Bool) →
    s.control.closed ≡ shut → is_sampled span ≡ sampled → EndsIdle s span t → (not shut && sampled) ≡ false →
    t.control.dropped ≡ s.control.dropped
undue_drops_none s span t true true c d ends e = (where_shut s span t s.control.closed c (ends.goes d)).dropped
undue_drops_none s span t true false c d ends e = (ends.skips d).dropped
undue_drops_none s span t false false c d ends e = (ends.skips d).dropped
undue_drops_none s span t false true c d ends e = absurd (cc)

-- at an eager processor it is the span that is not due
not_due : (eager due : Bool) → eager ≡ true → (eager && due) ≡ false → due ≡ false
not_due true due e h = h
not_due false due e h = absurd (cc)

module _ {E : Type 0} (calls : Ghosts E) where
  pub queue_ends : (old : BatchProcessor E) (span : PlainSpanData) (t : Machine E) → IsAtRest old.machine →
      ends_eagerly old span ≡ false → OffersSpan calls old.machine span t →
      BatchEnds calls old span (Ok tt) (record old { machine = t })
  queue_ends old span t rest plain offers = record {
    refused = false;
    ends = rw plain (record { offers = offers; refusal = refl; rest = refl });
    ok = refl;
    is_eager = refl;
    largest = same_largest old.machine.control t.control (offer_sizes calls old.machine span t offers);
    loses_none = λ eager some found. undue_drops_none old.machine span t old.machine.control.closed (is_sampled span)
        refl refl (offer_ends calls old.machine span t rest offers)
        (not_due old.is_eager (not old.machine.control.closed && is_sampled span) eager plain);
    below = λ due some found. absurd (cc);
  }

  -- an end that exports the batch that its span fills
  pub eager_ends : (old : BatchProcessor E) (span : PlainSpanData) (failed : ℕ) (t : Machine E) →
      ends_eagerly old span ≡ true → EndsBatch calls old.machine span failed t →
      BatchEnds calls old span (Ok tt) (record old {
        machine = t;
        failed_exports = counted_up old.failed_exports (counted_up 0 failed);
      })
  eager_ends old span failed t due ends = record {
    refused = ends.refused;
    ends = rw due (record {
      failed = failed;
      offers = ends.offers;
      counts = refused_ends_fail calls old.machine span ends.refused failed t ends.offers;
      rest = ap (λ n. record old { machine = t; failed_exports = n }) (counted_since old.failed_exports failed);
    });
    ok = refl;
    is_eager = refl;
    largest = ends.largest;
    loses_none = λ eager some found. ends.loses_none some found;
    below = λ due some found. ends.below some found;
  }
