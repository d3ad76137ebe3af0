-- The ticks so far.
use Rattle.std.proofs.Common.{◌≡◌, ◌++◌, string_bytes}
use Rattle.otel_picture.specs.Axes.{ticks_text}
use Rattle.otel_picture.proofs.axis.Axis.push_ticks.Given as goal

abbrev pub invariant-loop-tick : goal.invariant-loop-tick
invariant-loop-tick l = string_bytes l.text ≡ string_bytes l.fn.text ++ ticks_text l.self l.tick
