-- One span more.
use Rattle.std.proofs.Common.{arith}
use Rattle.otel_otlp.specs.OtlpSpan.{span_json}
use Rattle.otel_otlp.proofs.Adding.{item_more}
use Rattle.otel_otlp.proofs.tokens.RequestWriter.span_items.Goals as goal

pub loop-span-preserved : goal.loop-span-preserved
loop-span-preserved c =
    item_more span_json c.args.spans.now c.loop-span.span-index c.span-item.result (omega arith) c.span-item.is
    c.loop-span.invariant c.in_ok-span.ensures
