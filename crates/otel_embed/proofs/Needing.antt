-- Which calls at an open span need no memory.
use Rattle.std.proofs.Common.{◌≡◌, true, false, Option, None, Some, IfSome, IsSome, refl}
use Rattle.opentelemetry.specs.Plain.{PlainStatus}
use Rattle.otel_export.specs.PlainSpanData.{PlainSpanData}
use Rattle.otel_pipeline.specs.SpanEdits.{KeepsNoMore}
use Rattle.otel_pipeline.specs.SpanHistory.{set_status}
use Rattle.otel_sampling.specs.declared.trace.span_limit.SpanLimits.{SpanLimits}

-- a status needs none, whatever the span has recorded
pub status_needs_none : (limits : SpanLimits) (status : PlainStatus) (recorded : Option PlainSpanData) → IfSome recorded (KeepsNoMore limits (set_status status))
status_needs_none limits status None = tt
status_needs_none limits status (Some recorded) = tt

-- what is there
pub found_there : {X : Type 0} (found : Option X) → IsSome found → (x : X) × (found ≡ Some x)
found_there None is = absurd (let no : false ≡ true = is in cc)
found_there (Some x) is = (x, refl)
