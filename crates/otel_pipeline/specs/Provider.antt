-- What contracts see of a provider, what a flush and a shutdown do to it, and what its close reports.
use Rattle.std.specs.Prelude.{◌≡◌, ℕ, ◌↔◌, Bool, true, List, [], Result, Ok, Err, IsOk, IfErr, OnOk, sum_by, unwrap_or}
use Rattle.std.specs.Prelude.{if◌then◌else◌}
use Rattle.opentelemetry.specs.Plain.{PlainContext, PlainSpanContext}
use Rattle.opentelemetry.specs.PlainContexts.{current_span_context, empty_span_context}
use Rattle.otel_export.specs.ExporterCalls.{IsInternalFailure}
use Rattle.otel_export.specs.declared.error.OTelSdkError.{OTelSdkError}
use Rattle.otel_export.specs.declared.error.OTelSdkError.TheVariants as errors
use Rattle.otel_sampling.specs.declared.trace.span_limit.SpanLimits.{SpanLimits}
use Rattle.otel_pipeline.specs.ProcessorTelling.{TakesNothing, TellsNoneWaiting}
use Rattle.otel_pipeline.specs.Each.{AsksAll, AsksFirst}
use Rattle.otel_pipeline.specs.declared.trace.close_report.CloseReport.{CloseReport}
use Rattle.otel_pipeline.specs.declared.trace.span_processor.SpanProcessor.{Ghosts}
use Rattle.otel_pipeline.specs.declared.trace.timed.Timed as timing
use Rattle.otel_pipeline.specs.declared.trace.counts_left_spans.CountsLeftSpans as leaving

-- a provider: its processors, what each start asks and is handed, whether it is shut, and whether it was disabled
pub record ProviderState (P S G : Type 0) : Type 0 where
  pub processors : List P
  pub sampler : S
  pub id_generator : G
  pub span_limits : SpanLimits
  pub is_shut : Bool
  pub is_disabled : Bool

-- the span context of a span that does not start: a disabled provider hands that of the parent on, so that a trace goes
-- on through its service; else the empty one
abbrev pub unstarted_context : {P S G : Type 0} → ProviderState P S G → PlainContext → PlainSpanContext
unstarted_context provider cx = if provider.is_disabled then current_span_context cx else empty_span_context

-- what a shutdown answers where the provider is shut: an error, but Ok where it was disabled, and so has no processors
abbrev pub shut_answer : {P : Type 0} → Bool → List P → Result (Unit {0}) OTelSdkError
shut_answer true [] = Ok tt
shut_answer _ _ = Err errors.AlreadyShutdown

-- what a close reports of processors as it leaves them: how many spans those that closed closed over, and how many wait
-- in those that are open
pub record ReportsLeft {P : Type 0} (queues : leaving.Ghosts P) (processors : List P)
    (report : CloseReport) : Type 0 where
  pub stranded : report.stranded ≡ sum_by (λ p. unwrap_or (queues.closed_over p) 0) processors
  pub left_open : report.left_open ≡ sum_by queues.open_over processors

module _ {P : Type 0} (calls : Ghosts P) where
  -- a processor that was asked to shut down with a timeout answers as its call can, and is told no span. Where the
  -- answer is Ok nothing waits any more
  pub record ShutsProcessor (timeout : ℕ) (old : P) (answer : Result (Unit {0}) OTelSdkError) (new : P) : Type 0 where
    pub gives : calls.shutdown_gives old timeout answer new
    pub told : TakesNothing (calls.told old) (calls.told new)
    pub emptied : OnOk answer (TellsNoneWaiting (calls.told new))

  -- a processor that was asked to flush answers as its call can, is told no span, and stays open or shut. Where the
  -- answer is Ok nothing waits any more
  pub record FlushesProcessor (old : P) (answer : Result (Unit {0}) OTelSdkError) (new : P) : Type 0 where
    pub gives : calls.flush_gives old answer new
    pub told : TakesNothing (calls.told old) (calls.told new)
    pub is_open : (calls.told new).is_open ≡ (calls.told old).is_open
    pub emptied : OnOk answer (TellsNoneWaiting (calls.told new))

  -- a processor that was told the time does what is due as its call can, is told no span, and stays open or shut
  pub record RunsProcessor (timer : timing.Ghosts P) (now : ℕ) (old : P) (answer : Result (Unit {0}) OTelSdkError)
      (new : P) : Type 0 where
    pub gives : timer.due_gives old now answer new
    pub told : TakesNothing (calls.told old) (calls.told new)
    pub is_open : (calls.told new).is_open ≡ (calls.told old).is_open

  -- what a flush does, whether the provider is shut or not: each processor was asked, and the answer is the error of the
  -- first one that failed, Ok where none did
  pub record Flushes {S G : Type 0} (old : ProviderState P S G) (answer : Result (Unit {0}) OTelSdkError)
      (new : ProviderState P S G) : Type 0 where
    pub asked : AsksFirst FlushesProcessor old.processors new.processors answer
    pub rest : new ≡ record old { processors = new.processors }

  -- what is done where the time is told, whether the provider is shut or not: each processor did what was due, and the
  -- answer is Ok exactly where none failed
  pub record RunsDue {S G : Type 0} (timer : timing.Ghosts P) (now : ℕ) (old : ProviderState P S G)
      (answer : Result (Unit {0}) OTelSdkError) (new : ProviderState P S G) : Type 0 where
    pub failed : ℕ
    pub asked : AsksAll (RunsProcessor timer now) old.processors new.processors failed
    pub ok : IsOk answer ↔ (failed ≡ 0)
    pub err : IfErr answer IsInternalFailure
    pub rest : new ≡ record old { processors = new.processors }

  -- what a first shutdown does: the provider is shut, each processor was asked with this timeout, and the answer is Ok
  -- exactly where none failed
  pub record ShutsDown {S G : Type 0} (old : ProviderState P S G) (timeout : ℕ)
      (answer : Result (Unit {0}) OTelSdkError) (new : ProviderState P S G) : Type 0 where
    pub failed : ℕ
    pub asked : AsksAll (ShutsProcessor timeout) old.processors new.processors failed
    pub ok : IsOk answer ↔ (failed ≡ 0)
    pub err : IfErr answer IsInternalFailure
    pub rest : new ≡ record old { processors = new.processors; is_shut = true }
