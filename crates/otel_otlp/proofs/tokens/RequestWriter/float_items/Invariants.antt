-- The items so far are written.
use Rattle.std.proofs.Common.{Ok, take}
use Rattle.std.specs.declared.alloc.AllocError.{AllocError}
use Rattle.otel_otlp.specs.Fields.{Adds, list_tokens}
use Rattle.otel_otlp.specs.OtlpValues.{double_json}
use Rattle.otel_otlp.proofs.tokens.RequestWriter.float_items.Given as goal

abbrev pub invariant-loop-item : goal.invariant-loop-item
invariant-loop-item l =
    Adds {E = AllocError} (Ok tt) l.fn.self l.self (list_tokens double_json (take l.item-index l.items))
