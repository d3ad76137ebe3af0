-- One name more is written, after a comma if others stand before it.
use Rattle.std.proofs.Common.{◌≡◌, ◌++◌, Some, slice_get, string_bytes, sym, arith, rules}
use Rattle.std.proofs.lemmas.Option.{get_or_from_slice_get}
use Rattle.otel_console.proofs.Listed.{item_written}
use Rattle.otel_trace_steps.proofs.steps.step_texts.push_waiting.Goals as goal

pub loop-i-preserved : goal.loop-i-preserved
loop-i-preserved c =
    let span = c.in-Some.span.now in
    let there : slice_get c.args.machine.now.waiting c.loop-i.i ≡ Some span = search rules in
    let named : string_bytes c.push_str.new.self ≡ string_bytes c.push_comma.new.text ++ span.name = search rules in
    item_written (λ s. s.name) c.args.machine.now.waiting c.loop-i.i span (string_bytes c.args.text.now) (string_bytes c.loop-i.text) (string_bytes c.push_comma.new.text) (string_bytes c.push_str.new.self)
    (omega arith) (sym (get_or_from_slice_get c.args.machine.now.waiting c.loop-i.i span span there)) c.loop-i.invariant c.in_ok-push_comma.ensures named
