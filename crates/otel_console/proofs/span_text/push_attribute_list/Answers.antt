-- One attribute more is written, after a comma if others stand before it.
use Rattle.std.proofs.Common.{string_bytes, arith}
use Rattle.otel_console.specs.SpanText.{attribute_text}
use Rattle.otel_console.proofs.Listed.{item_written}
use Rattle.otel_console.proofs.span_text.push_attribute_list.Goals as goal

pub loop-i-preserved : goal.loop-i-preserved
loop-i-preserved c =
    item_written attribute_text c.args.attributes.now c.loop-i.i c.index-attributes-i.result (string_bytes c.args.text.now) (string_bytes c.loop-i.text) (string_bytes c.push_comma.new.text) (string_bytes c.push_attribute.new.text)
    (omega arith) c.index-attributes-i.is c.loop-i.invariant c.in_ok-push_comma.ensures c.in_ok-push_attribute.ensures
