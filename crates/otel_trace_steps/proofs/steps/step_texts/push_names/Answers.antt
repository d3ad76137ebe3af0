-- One name more is written, after a comma if others stand before it.
use Rattle.std.proofs.Common.{◌≡◌, ◌++◌, string_bytes, arith, rules}
use Rattle.otel_console.proofs.Listed.{item_written}
use Rattle.otel_trace_steps.proofs.steps.step_texts.push_names.Goals as goal

pub loop-i-preserved : goal.loop-i-preserved
loop-i-preserved c =
    let named : string_bytes c.push_str.new.self ≡ string_bytes c.push_comma.new.text ++ c.index-spans-i.result.name = search rules in
    item_written (λ span. span.name) c.args.spans.now c.loop-i.i c.index-spans-i.result (string_bytes c.args.text.now) (string_bytes c.loop-i.text) (string_bytes c.push_comma.new.text) (string_bytes c.push_str.new.self)
    (omega arith) c.index-spans-i.is c.loop-i.invariant c.in_ok-push_comma.ensures named
