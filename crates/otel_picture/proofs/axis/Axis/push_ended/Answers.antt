-- Ticks, the last one, and the end.
use Rattle.std.proofs.Common.{◌++◌, length, string_bytes}
use Rattle.otel_picture.specs.Axes.{last_tick_text, ticks_text}
use Rattle.otel_picture.proofs.Joined.{then_more}
use Rattle.otel_picture.proofs.axis.Axis.push_ended.Goals as goal

pub returns : goal.returns
unfolding Rattle.otel_picture.specs.Axes.ended_text
returns c =
    let axis = c.args.self in
    let end = c.args.end.now in
    let between = string_bytes c.push_ticks.new.text in
    let last = last_tick_text axis (length end) in
    let whole = string_bytes c.push_str.new.self in
    then_more (string_bytes c.args.text.now) between whole (ticks_text axis axis.last) (last ++ end)
    c.in_ok-push_ticks.ensures
    (then_more between (string_bytes c.push_last_tick.new.text) whole last end c.in_ok-push_last_tick.ensures
    c.in_ok-push_str.ensures.bytes)
