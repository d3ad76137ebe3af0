-- The items so far are written.
use Rattle.std.proofs.Common.{Ok, take}
use Rattle.std.specs.declared.alloc.AllocError.{AllocError}
use Rattle.otel_otlp.specs.Fields.{Adds, list_tokens}
use Rattle.otel_otlp.specs.OtlpSpan.{event_json}
use Rattle.otel_otlp.proofs.tokens.RequestWriter.event_items.Given as goal

abbrev pub invariant-loop-event : goal.invariant-loop-event
invariant-loop-event l =
    Adds {E = AllocError} (Ok tt) l.fn.self l.self (list_tokens event_json (take l.event-index l.events))
