-- What a scope over a provider, a tracer and a clock does where a span starts and ends, and where it closes.
use Rattle.std.specs.Prelude.{◌≡◌, ◌⊎◌, ℕ, Bool, false, zero, suc, Option, Some, None, Result, Ok, Err, IsOk}
use Rattle.std.specs.Bool.{OnFalse, OnTrue}
use Rattle.std.specs.declared.alloc.AllocError.{AllocError}
use Rattle.opentelemetry.specs.PlainSpanBuilder.{PlainSpanBuilder}
use Rattle.otel_export.specs.StoredBatches.{one_more}
use Rattle.otel_export.specs.declared.error.OTelSdkError.{OTelSdkError}
use Rattle.otel_sampling.specs.declared.trace.sampler.ShouldSample as sampling
use Rattle.otel_sampling.specs.declared.trace.id_generator.GivesIds as drawing
use Rattle.otel_pipeline.specs.Ending.{EndIsInfallible}
use Rattle.otel_pipeline.specs.InSpan.{AnswersNow, DrawsNow, EndsOrDrops, beginning, clocked}
use Rattle.otel_pipeline.specs.Provider.{Flushes, ProviderState, ReportsLeft, RunsDue, ShutsDown}
use Rattle.otel_pipeline.specs.SpanHistory.{PlainSpan}
use Rattle.otel_pipeline.specs.declared.trace.close_report.CloseReport.{CloseReport}
use Rattle.otel_pipeline.specs.declared.trace.counts_left_spans.CountsLeftSpans as leaving
use Rattle.otel_pipeline.specs.declared.trace.span_processor.SpanProcessor.{Ghosts}
use Rattle.otel_pipeline.specs.declared.trace.timed.Timed as timing
use Rattle.otel_scope.specs.Currents.{IsBeside, at_root, inside, settled}
use Rattle.otel_scope.specs.declared.current.Current.{Current}
use Rattle.otel_scope.specs.declared.tracing.Closed.{Closed}
use Rattle.otel_scope.specs.declared.tracing.Tracing.{Tracing}

-- how many spans are lost after one ended, or found no memory to start or to end: no more where each processor took it
abbrev pub counted : Result ℕ AllocError → ℕ → ℕ
counted (Ok zero) lost = lost
counted (Ok (suc _)) lost = one_more lost
counted (Err _) lost = one_more lost

module _ {P S G C T : Type 0} (calls : Ghosts P) (sampler : sampling.Ghosts S) (ids : drawing.Ghosts G)
    (tells : C → ℕ → C → Type 0) where
  -- a span starts in the current context, at a moment that the clock told, and becomes current
  pub record Starts (old : Tracing P S G C T) (begun : PlainSpanBuilder) (new : Tracing P S G C T) : Type 0 where
    pub span : PlainSpan
    pub answers : AnswersNow calls sampler ids tells
        (beginning old.tracer begun old.current.cx old.provider old.clock) (Ok span)
        (clocked new.provider new.clock)
    pub rest : new ≡ record old {
      provider = new.provider;
      clock = new.clock;
      current = inside old.current span;
    }

module _ {P S G C T : Type 0} (ids : drawing.Ghosts G) (tells : C → ℕ → C → Type 0) where
  -- there was no memory for the span: ids were drawn at most, and one more is lost
  pub record Loses (old : Tracing P S G C T) (begun : PlainSpanBuilder) (new : Tracing P S G C T) : Type 0 where
    pub draws : DrawsNow ids tells (beginning old.tracer begun old.current.cx old.provider old.clock)
        (clocked new.provider new.clock)
    pub beside : IsBeside old.current new.current
    pub rest : new ≡ record old {
      provider = new.provider;
      clock = new.clock;
      current = new.current;
      lost = one_more old.lost;
    }

-- the span was lost before its start: one more is
pub record LosesAtOnce {P S G C T : Type 0} (old new : Tracing P S G C T) : Type 0 where
  pub beside : IsBeside old.current new.current
  pub rest : new ≡ record old { current = new.current; lost = one_more old.lost }

module _ {P S G C T : Type 0} (calls : Ghosts P) (sampler : sampling.Ghosts S) (ids : drawing.Ghosts G)
    (tells : C → ℕ → C → Type 0) where
  -- what a start that was asked for does, or one for whose beginning there was no memory
  abbrev pub Enters : Tracing P S G C T → Option PlainSpanBuilder → Tracing P S G C T → Type 0
  Enters old None new = LosesAtOnce old new
  Enters old (Some begun) new = Starts calls sampler ids tells old begun new ⊎ Loses ids tells old begun new

module _ {P S G C T : Type 0} (calls : Ghosts P) (tells : C → ℕ → C → Type 0) where
  -- a span ends, at a moment that the clock told, or there was no memory for that and it is dropped; it is counted where
  -- some processor does not have it
  pub record Ends (old : Tracing P S G C T) (span : PlainSpan) (outer : Current) (new : Tracing P S G C T)
      : Type 0 where
    pub end : ℕ
    pub told : tells old.clock end new.clock
    pub answer : Result ℕ AllocError
    pub delivers : EndsOrDrops calls old.provider span end answer new.provider
    pub free : EndIsInfallible span old.provider → IsOk answer
    pub rest : new ≡ record old {
      provider = new.provider;
      clock = new.clock;
      current = outer;
      lost = counted answer old.lost;
    }

  -- the span that is current ends, as work in it went, and what is outside is current
  abbrev pub LeavesFor : Option PlainSpan → Tracing P S G C T → Current → Bool → Tracing P S G C T → Type 0
  LeavesFor None old outer failed new = new ≡ record old { current = outer }
  LeavesFor (Some span) old outer failed new = Ends old (settled failed span) outer new

  abbrev pub Leaves : Tracing P S G C T → Current → Bool → Tracing P S G C T → Type 0
  Leaves old outer failed new = LeavesFor old.current.span old outer failed new

module _ {P S G C T : Type 0} (calls : Ghosts P) where
  -- each processor was asked to flush, and nothing else changed
  pub record FlushesHere (old : Tracing P S G C T) (answer : Result (Unit {0}) OTelSdkError) (new : Tracing P S G C T)
      : Type 0 where
    pub flushes : Flushes calls old.provider answer new.provider
    pub rest : new ≡ record old { provider = new.provider }

  -- the clock was read, each processor did what was due at that moment, and nothing else changed
  pub record RunsHere (timer : timing.Ghosts P) (tells : C → ℕ → C → Type 0) (old : Tracing P S G C T)
      (answer : Result (Unit {0}) OTelSdkError) (new : Tracing P S G C T) : Type 0 where
    pub moment : ℕ
    pub told : tells old.clock moment new.clock
    pub runs : RunsDue calls timer moment old.provider answer new.provider
    pub rest : new ≡ record old { provider = new.provider; clock = new.clock }

module _ {P S G : Type 0} (calls : Ghosts P) (queues : leaving.Ghosts P) where
  -- a provider was closed: shut down where it was open, with a report of what its processors leave
  pub record ClosesProvider (old : ProviderState P S G) (report : CloseReport) : Type 0 where
    pub where_shut : OnTrue old.is_shut ((report.result ≡ Ok tt) × ReportsLeft queues old.processors report)
    pub where_open : OnFalse old.is_shut ((after : ProviderState P S G)
        × ShutsDown calls old 5_000_000_000 report.result after × ReportsLeft queues after.processors report)

module _ {P S G C T : Type 0} (calls : Ghosts P) (queues : leaving.Ghosts P) (tells : C → ℕ → C → Type 0) where
  -- a span that was still current ended, and the provider closed
  pub record Closes (old : Tracing P S G C T) (closed : Closed C T) : Type 0 where
    pub left : Tracing P S G C T
    pub leaves : Leaves calls tells old at_root false left
    pub closes : ClosesProvider calls queues left.provider closed.report
    pub lost : closed.lost ≡ left.lost
    pub tracer : closed.tracer ≡ left.tracer
    pub clock : closed.clock ≡ left.clock
    pub propagator : closed.propagator ≡ left.propagator
