-- The end of a span whose caller wants an error where a processor did not take it.
use Rattle.std.specs.Prelude.{◌≡◌, ◌≢◌, ℕ, Result, Ok, Err}
use Rattle.otel_pipeline.specs.Ending.{Ends}
use Rattle.otel_pipeline.specs.Provider.{ProviderState}
use Rattle.otel_pipeline.specs.SpanHistory.{PlainSpan}
use Rattle.otel_pipeline.specs.declared.trace.span.SpanEndError.{SpanEndError}
use Rattle.otel_pipeline.specs.declared.trace.span.SpanEndError.TheVariants.{OutOfMemory, Refused}
use Rattle.otel_pipeline.specs.declared.trace.span_processor.SpanProcessor.{Ghosts}

-- none refused, so many did, or there was no memory and nothing happened
abbrev pub AnswersEnd : {P S G : Type 0} → Ghosts P → ProviderState P S G → PlainSpan → ℕ
    → Result (Unit {0}) SpanEndError → ProviderState P S G → Type 0
AnswersEnd calls old span moment (Ok _) new = Ends calls old span moment 0 new
AnswersEnd calls old span moment (Err (Refused refused)) new = (refused ≢ 0) × Ends calls old span moment refused new
AnswersEnd calls old span moment (Err OutOfMemory) new = new ≡ old
