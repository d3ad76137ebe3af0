use Rattle.std.specs.Prelude.{◌≡◌, ℕ, ◌&&◌, not, Bool, true, false, [], ◌∷◌, None, Result, Ok, Err, MatchBool, MatchResult}
use Rattle.std.specs.declared.alloc.AllocError.{AllocError}
use Rattle.otel_resource.specs.Resource.{PlainResource}
use Rattle.otel_export.specs.declared.error.OTelSdkError.{OTelSdkError}
use Rattle.otel_export.specs.PlainSpanData.{PlainSpanData, is_sampled}
use Rattle.otel_export.specs.StoredBatches.{one_more}
use Rattle.otel_export.specs.Telling.{Tells}
use Rattle.otel_export.specs.declared.trace.export.SpanExporter.{Ghosts}
use Rattle.otel_pipeline.specs.ProcessorTelling.{ProcessorTelling, spans_told}

-- a simple processor: its exporter, whether it is shut, and how many of its exports failed
pub record SimpleProcessor (E : Type 0) : Type 0 where
  pub exporter : E
  pub is_shut : Bool
  pub failed_exports : ℕ

-- a new one over an exporter, which is open
abbrev pub first_simple : {E : Type 0} → E → SimpleProcessor E
first_simple exporter = record { exporter = exporter; is_shut = false; failed_exports = 0 }

-- a count of failures after one more answer
abbrev pub count_failure : {T X : Type 0} → Result T X → ℕ → ℕ
count_failure (Ok _) count = count
count_failure (Err _) count = one_more count

module _ {E : Type 0} (calls : Ghosts E) where
  -- what it tells: the spans of its exporter's batches; nothing waits, none is dropped, and one may be refused, for want
  -- of memory for its batch
  abbrev pub simple_telling : SimpleProcessor E → ProcessorTelling
  simple_telling p = record {
    spans = None;
    heard = spans_told (calls.told p.exporter);
    waiting = 0;
    dropped = 0;
    takes_all = false;
    is_open = not p.is_shut;
  }

  -- one export of a batch of one, whose answer is counted where it is an error
  pub record ExportsOne (old : SimpleProcessor E) (span : PlainSpanData) (new : SimpleProcessor E) : Type 0 where
    pub answer : Result (Unit {0}) OTelSdkError
    pub gives : calls.export_gives old.exporter (span ∷ []) answer new.exporter
    pub told : Tells (calls.told old.exporter) ((span ∷ []) ∷ []) (calls.told new.exporter)
    pub counted : new.failed_exports ≡ count_failure answer old.failed_exports
    pub rest : new ≡ record old { exporter = new.exporter; failed_exports = new.failed_exports }

  -- an end whose span is due is one export; where there is no memory for the batch nothing is exported. Any other end
  -- leaves the exporter as it was
  abbrev pub ExportsIf : Bool → SimpleProcessor E → PlainSpanData → Result (Unit {0}) AllocError → SimpleProcessor E
      → Type 0
  ExportsIf is_due old span taken new = MatchBool is_due
      (MatchResult taken (λ _. ExportsOne old span new) (λ _. new ≡ old))
      ((taken ≡ Ok tt) × (new ≡ old))

  -- a span is due while the processor is open, where it is sampled
  abbrev pub SimpleEnds : SimpleProcessor E → PlainSpanData → Result (Unit {0}) AllocError → SimpleProcessor E → Type 0
  SimpleEnds old span = ExportsIf (not old.is_shut && is_sampled span) old span

  -- a shutdown: its exporter did what its shutdown with this timeout and this answer may do
  pub record SimpleShuts (old : SimpleProcessor E) (timeout : ℕ) (answer : Result (Unit {0}) OTelSdkError)
      (new : SimpleProcessor E) : Type 0 where
    pub gives : calls.shutdown_gives old.exporter timeout answer new.exporter
    pub told : calls.told new.exporter ≡ calls.told old.exporter
    pub rest : new ≡ record old { exporter = new.exporter; is_shut = true }

  -- a resource: its exporter did with it what its call may do
  pub record HandsResource (old : SimpleProcessor E) (resource : PlainResource)
      (answer : Result (Unit {0}) AllocError) (new : SimpleProcessor E) : Type 0 where
    pub gives : calls.resource_gives old.exporter resource new.exporter
    pub told : calls.told new.exporter ≡ calls.told old.exporter
    pub ok : answer ≡ Ok tt
    pub rest : new ≡ record old { exporter = new.exporter }
