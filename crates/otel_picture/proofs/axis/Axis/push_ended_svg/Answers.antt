-- Ticks, the last one, and the end.
use Rattle.std.proofs.Common.{◌++◌, codes, string_bytes}
use Rattle.otel_picture.specs.Axes.{end_svg, tick_svg, ticks_svg}
use Rattle.otel_picture.proofs.Joined.{then_more}
use Rattle.otel_picture.proofs.axis.Axis.push_ended_svg.Goals as goal

pub returns : goal.returns
unfolding Rattle.otel_picture.specs.Axes.ended_svg
returns c =
    let axis = c.args.self in
    let line = c.args.line in
    let last = tick_svg axis line c.args.end axis.last in
    let end = end_svg axis.duration line c.args.end in
    let ticked = string_bytes c.push_svg_ticks.new.out in
    let lasted = string_bytes c.push_svg_tick.new.out in
    let ended = string_bytes c.push_svg_end.new.out in
    let whole = string_bytes c.push_str.new.self in
    let feed = codes "\n" in
    then_more (string_bytes c.args.out.now) ticked whole (ticks_svg axis line c.args.end axis.last)
    (last ++ (end ++ feed)) c.in_ok-push_svg_ticks.ensures
    (then_more ticked lasted whole last (end ++ feed) c.in_ok-push_svg_tick.ensures
    (then_more lasted ended whole end feed c.in_ok-push_svg_end.ensures c.in_ok-push_str.ensures.bytes))
