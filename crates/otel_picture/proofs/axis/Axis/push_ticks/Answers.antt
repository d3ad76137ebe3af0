-- One tick more.
use Rattle.std.proofs.Common.{◌+◌, ◌-◌, ◌*◌, add-one, string_bytes}
use Rattle.otel_picture.specs.Axes.{place_of, tick_text, ticks_text}
use Rattle.otel_picture.proofs.Joined.{then_more}
use Rattle.otel_picture.proofs.axis.Axis.push_ticks.Goals as goal

pub loop-tick-preserved : goal.loop-tick-preserved
loop-tick-preserved c =
    let axis = c.args.self in
    let tick = c.loop-tick.tick in
    let text = tick_text (place_of axis (tick + 1) - place_of axis tick) (tick * axis.step) in
    rw (add-one tick) (then_more (string_bytes c.args.text.now) (string_bytes c.loop-tick.text)
    (string_bytes c.push_tick.new.text) (ticks_text axis tick) text c.loop-tick.invariant c.in_ok-push_tick.ensures)
