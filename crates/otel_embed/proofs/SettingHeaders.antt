-- The headers of a context are set one after another.
use Rattle.std.proofs.Common.{Result, Ok, Err, OnOk}
use Rattle.std.specs.declared.alloc.AllocError.{AllocError}
use Rattle.opentelemetry.specs.Carrier.{Texts}
use Rattle.opentelemetry.specs.Plain.{PlainContext}
use Rattle.otel_propagation.specs.StrictBaggage.{InjectsStrictBaggage}
use Rattle.otel_propagation.specs.Traceparent.{InjectsTraceContext}
use Rattle.otel_embed.specs.Headers.{SetsContext}

pub sets_both : (cx : PlainContext) (old between new : Texts) (answer : Result (Unit {0}) AllocError) → InjectsTraceContext cx old (Ok tt) between → InjectsStrictBaggage cx between answer new
    → OnOk answer (SetsContext cx old new)
sets_both cx old between new (Ok _) trace baggage = record { between = between; trace = trace; baggage = baggage }
sets_both cx old between new (Err _) trace baggage = tt
