-- The batches that the exporter of a processor keeps: a call of a processor only adds batches after them, and they are
-- taken by nothing but a taking.
use Rattle.std.specs.Prelude.{◌≡◌, ◌&&◌, not, ℕ, List, [], ◌∷◌, Bool, true, false, Result, Ok, Err}
use Rattle.std.specs.declared.alloc.AllocError.{AllocError}
use Rattle.std.proofs.Common.{ap}
use Rattle.opentelemetry.specs.Plain.{PlainContext}
use Rattle.otel_export.specs.declared.error.OTelSdkError.{OTelSdkError}
use Rattle.otel_export.specs.KeptBatches.{OnlyAdds, adds_none}
use Rattle.otel_export.specs.PlainSpanData.{PlainSpanData, is_sampled}
use Rattle.otel_export.specs.StoredBatches.{StoredBatches, all_taken}
use Rattle.otel_export.specs.declared.trace.export.SpanExporter as exporting
use Rattle.otel_pipeline.specs.SpanHistory.{PlainSpan}
use Rattle.otel_pipeline.specs.SimpleProcessor.{SimpleProcessor, SimpleEnds, ExportsIf}
use Rattle.otel_pipeline.specs.declared.trace.counts_left_spans.CountsLeftSpans as leaving
use Rattle.otel_pipeline.specs.declared.trace.timed.Timed as timing
use Rattle.otel_pipeline.specs.declared.trace.span_processor.SpanProcessor.{Ghosts}

-- the batches that a processor keeps are taken: it tells, leaves and dropped what it did before
pub record TakesBatches {P : Type 0} (calls : Ghosts P) (queues : leaving.Ghosts P) (stored : P → StoredBatches)
    (p q : P) : Type 0 where
  pub taken : stored q ≡ all_taken (stored p)
  pub told : calls.told q ≡ calls.told p
  pub closed_over : queues.closed_over q ≡ queues.closed_over p
  pub open_over : queues.open_over q ≡ queues.open_over p
  pub dropped_over : queues.dropped_over q ≡ queues.dropped_over p

-- a call of a processor takes back no batch, and a start stores and loses none
pub record OnlyAppends {P : Type 0} (calls : Ghosts P) (timer : timing.Ghosts P) (stored : P → StoredBatches)
    : Type 0 where
  pub starts : (p : P) (span : PlainSpan) (cx : PlainContext) (edited : PlainSpan) (q : P)
      → calls.start_gives p span cx edited q → stored q ≡ stored p
  pub ends : (p : P) (span : PlainSpanData) (answer : Result (Unit {0}) AllocError) (q : P)
      → calls.end_gives p span answer q → OnlyAdds (stored p) (stored q)
  pub flushes : (p : P) (answer : Result (Unit {0}) OTelSdkError) (q : P)
      → calls.flush_gives p answer q → OnlyAdds (stored p) (stored q)
  pub shuts : (p : P) (timeout : ℕ) (answer : Result (Unit {0}) OTelSdkError) (q : P)
      → calls.shutdown_gives p timeout answer q → OnlyAdds (stored p) (stored q)
  pub runs : (p : P) (now : ℕ) (answer : Result (Unit {0}) OTelSdkError) (q : P)
      → timer.due_gives p now answer q → OnlyAdds (stored p) (stored q)

module _ {E : Type 0} (stored : E → StoredBatches) where
  -- a call that leaves a simple processor as it was
  pub simple_rests : (old new : SimpleProcessor E) → new ≡ old → OnlyAdds (stored old.exporter) (stored new.exporter)
  simple_rests old new same =
      adds_none (stored old.exporter) (stored new.exporter) (ap (λ (p : SimpleProcessor E). stored p.exporter) same)

  -- and stores nothing
  pub simple_stays : {B : Type 0} (old new : SimpleProcessor E) → (new ≡ old) × B
      → stored new.exporter ≡ stored old.exporter
  simple_stays old new h = ap (λ (p : SimpleProcessor E). stored p.exporter) h.0

  module _ (calls : exporting.Ghosts E)
      (appends : (old : E) (batch : List PlainSpanData) (answer : Result (Unit {0}) OTelSdkError) (new : E)
      → calls.export_gives old batch answer new → OnlyAdds (stored old) (stored new)) where
    -- an end at a simple processor
    appends_if : (is_due : Bool) (old : SimpleProcessor E) (span : PlainSpanData)
        (taken : Result (Unit {0}) AllocError) (new : SimpleProcessor E)
        → ExportsIf calls is_due old span taken new → OnlyAdds (stored old.exporter) (stored new.exporter)
    appends_if true old span (Ok _) new h = appends old.exporter (span ∷ []) h.answer new.exporter h.gives
    appends_if true old span (Err _) new h = simple_rests old new h
    appends_if false old span taken new h = simple_rests old new h.1

    pub simple_appends : (old : SimpleProcessor E) (span : PlainSpanData) (taken : Result (Unit {0}) AllocError)
        (new : SimpleProcessor E)
        → SimpleEnds calls old span taken new → OnlyAdds (stored old.exporter) (stored new.exporter)
    simple_appends old span taken new h = appends_if (not old.is_shut && is_sampled span) old span taken new h
