-- The items so far are written.
use Rattle.std.proofs.Common.{Ok, take}
use Rattle.std.specs.declared.alloc.AllocError.{AllocError}
use Rattle.otel_otlp.specs.Fields.{Adds, list_tokens}
use Rattle.otel_otlp.specs.OtlpSpan.{span_json}
use Rattle.otel_otlp.proofs.tokens.RequestWriter.span_items.Given as goal

abbrev pub invariant-loop-span : goal.invariant-loop-span
invariant-loop-span l =
    Adds {E = AllocError} (Ok tt) l.fn.self l.self (list_tokens span_json (take l.span-index l.spans))
