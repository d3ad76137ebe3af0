-- The items so far are written.
use Rattle.std.proofs.Common.{Ok, take}
use Rattle.std.specs.declared.alloc.AllocError.{AllocError}
use Rattle.otel_otlp.specs.Fields.{Adds, list_tokens}
use Rattle.otel_otlp.specs.OtlpSpan.{link_json}
use Rattle.otel_otlp.proofs.tokens.RequestWriter.link_items.Given as goal

abbrev pub invariant-loop-link : goal.invariant-loop-link
invariant-loop-link l =
    Adds {E = AllocError} (Ok tt) l.fn.self l.self (list_tokens link_json (take l.link-index l.links))
