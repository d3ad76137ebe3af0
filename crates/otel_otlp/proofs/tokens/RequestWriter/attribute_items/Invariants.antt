-- The items so far are written.
use Rattle.std.proofs.Common.{Ok, take}
use Rattle.std.specs.declared.alloc.AllocError.{AllocError}
use Rattle.otel_otlp.specs.Fields.{Adds, list_tokens}
use Rattle.otel_otlp.specs.OtlpValues.{attribute_json}
use Rattle.otel_otlp.proofs.tokens.RequestWriter.attribute_items.Given as goal

abbrev pub invariant-loop-attribute : goal.invariant-loop-attribute
invariant-loop-attribute l =
    Adds {E = AllocError} (Ok tt) l.fn.self l.self (list_tokens attribute_json (take l.attribute-index l.attributes))
