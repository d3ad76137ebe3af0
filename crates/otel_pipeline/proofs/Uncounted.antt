-- Where a span keeps no further event, it matters not which event comes: it is counted, or nothing happens.
use Rattle.std.proofs.Common.{◌≡◌, ℕ, true, false, List, [], Option, Some, None, IfSome, length, nat_lt, nat_le, refl, arith}
use Rattle.std.proofs.lemmas.Bool.Decides.{nat_tests}
use Rattle.opentelemetry.specs.Plain.{PlainEvent}
use Rattle.otel_sampling.specs.declared.trace.span_limit.SpanLimits.{SpanLimits}
use Rattle.otel_export.specs.PlainSpanData.{PlainSpanData}
use Rattle.otel_pipeline.specs.SpanHistory.{PlainSpan, add_event, edited, edited_data, edited_if, keeps_no_event}
use Rattle.otel_pipeline.specs.Exceptions.{RecordsError, exception_event, exception_of}

full_data : (limits : SpanLimits) (these those : PlainEvent) (recorded : PlainSpanData)
    → nat_le limits.max_events_per_span (length recorded.events.events) ≡ true
    → edited_data limits (add_event these) recorded ≡ edited_data limits (add_event those) recorded
full_data limits these those recorded full =
    let above : nat_lt (length recorded.events.events) limits.max_events_per_span ≡ false = grind (arith, nat_tests) in
    rw above refl

full_if : (limits : SpanLimits) (these those : PlainEvent) (recorded : Option PlainSpanData)
    → keeps_no_event limits recorded ≡ true
    → edited_if limits (add_event these) recorded ≡ edited_if limits (add_event those) recorded
full_if limits these those None full = refl
full_if limits these those (Some recorded) full =
    let same = full_data limits these those recorded full in cc

-- any event does what this one does
pub any_event : (these those : PlainEvent) (span : PlainSpan) → keeps_no_event span.limits span.recorded ≡ true
    → edited (add_event these) span ≡ edited (add_event those) span
any_event these those span full =
    let same = full_if span.limits these those span.recorded full in cc

abbrev said : Option (List ℕ) → List ℕ
said None = []
said (Some bytes) = bytes

said_so : (shown : Option (List ℕ)) → IfSome shown (λ bytes. said shown ≡ bytes)
said_so None = tt
said_so (Some bytes) = refl

-- an error is recorded where any event does what its event does
pub error_by_any_event : (shown : Option (List ℕ)) (moment : ℕ) (old new : PlainSpan)
    → ((event : PlainEvent) → new ≡ edited (add_event event) old) → RecordsError shown moment old new
error_by_any_event shown moment old new counts = record {
  message = said shown;
  is_shown = said_so shown;
  recorded = counts (exception_event (exception_of (said shown)) moment);
}
