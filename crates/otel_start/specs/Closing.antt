-- How a scope over a provider is closed, and what was lost of its spans.
use Rattle.std.specs.Prelude.{◌≡◌, ℕ, Ok, Result, sum_by}
use Rattle.otel_export.specs.declared.error.OTelSdkError.{OTelSdkError}
use Rattle.otel_pipeline.specs.declared.trace.counts_left_spans.CountsLeftSpans as leaving
use Rattle.otel_pipeline.specs.declared.trace.span_processor.SpanProcessor.{Ghosts}
use Rattle.otel_scope.specs.Tracings.{Closes, FlushesHere}
use Rattle.otel_scope.specs.declared.tracing.Closed.{Closed}
use Rattle.otel_scope.specs.declared.tracing.Tracing.{Tracing}
use Rattle.otel_start.specs.declared.losses.Losses.{Losses}

-- nothing was lost
pub record AreNone (losses : Losses) : Type 0 where
  pub failure : losses.failure ≡ Ok tt
  pub lost : losses.lost ≡ 0
  pub failed_exports : losses.failed_exports ≡ 0
  pub dropped : losses.dropped ≡ 0
  pub left : losses.left ≡ 0

module _ {P S G C T : Type 0} (calls : Ghosts P) (queues : leaving.Ghosts P) (tells : C → ℕ → C → Type 0) where
  -- the processors of a scope were flushed, what they lost was counted, and the scope was closed; that nothing failed is
  -- said only where neither the flush nor the close did
  pub record ClosesCounted (old : Tracing P S G C T) (losses : Losses) : Type 0 where
    pub answer : Result (Unit {0}) OTelSdkError
    pub flushed : Tracing P S G C T
    pub flushes : FlushesHere calls old answer flushed
    pub closed : Closed C T
    pub closes : Closes calls queues tells flushed closed
    pub failure : losses.failure ≡ Ok tt → (answer ≡ Ok tt) × (closed.report.result ≡ Ok tt)
    pub lost : losses.lost ≡ closed.lost
    pub failed_exports : losses.failed_exports ≡ sum_by queues.failed_over flushed.provider.processors
    pub dropped : losses.dropped ≡ sum_by queues.dropped_over flushed.provider.processors
    pub left : losses.left ≡ 0 → (closed.report.stranded ≡ 0) × (closed.report.left_open ≡ 0)

  -- a scope was closed so, and nothing was lost
  pub record ClosesWhole (old : Tracing P S G C T) : Type 0 where
    pub losses : Losses
    pub closes : ClosesCounted old losses
    pub are_none : AreNone losses
