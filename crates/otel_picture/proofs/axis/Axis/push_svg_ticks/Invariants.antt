-- The ticks so far.
use Rattle.std.proofs.Common.{◌≡◌, ◌++◌, string_bytes}
use Rattle.otel_picture.specs.Axes.{ticks_svg}
use Rattle.otel_picture.proofs.axis.Axis.push_svg_ticks.Given as goal

abbrev pub invariant-loop-tick : goal.invariant-loop-tick
invariant-loop-tick l = string_bytes l.out ≡ string_bytes l.fn.out ++ ticks_svg l.self l.line l.end l.tick
