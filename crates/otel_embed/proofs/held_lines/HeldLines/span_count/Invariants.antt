-- The spans so far.
use Rattle.std.proofs.Common.{◌≡◌, ◌-◌, ◌^◌, min, sum, take}
use Rattle.otel_embed.proofs.held_lines.HeldLines.span_count.Given as goal

abbrev pub invariant-loop-spans : goal.invariant-loop-spans
invariant-loop-spans l = l.count ≡ min (sum (take l.spans-index l.spans-items)) (2 ^ 64 - 1)
