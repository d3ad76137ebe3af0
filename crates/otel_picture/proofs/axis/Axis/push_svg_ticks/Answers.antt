-- One tick more.
use Rattle.std.proofs.Common.{add-one, string_bytes}
use Rattle.otel_picture.specs.Axes.{tick_svg, ticks_svg}
use Rattle.otel_picture.proofs.Joined.{then_more}
use Rattle.otel_picture.proofs.axis.Axis.push_svg_ticks.Goals as goal

pub loop-tick-preserved : goal.loop-tick-preserved
loop-tick-preserved c =
    rw add-one (then_more (string_bytes c.args.out.now) (string_bytes c.loop-tick.out)
    (string_bytes c.push_svg_tick.new.out) (ticks_svg c.args.self c.args.line c.args.end c.loop-tick.tick)
    (tick_svg c.args.self c.args.line c.args.end c.loop-tick.tick) c.loop-tick.invariant
    c.in_ok-push_svg_tick.ensures)
