-- The lines of the attributes so far are written.
use Rattle.std.proofs.Common.{◌≡◌, take, string_bytes}
use Rattle.otel_otlp_read.specs.Resources.{pair_lines}
use Rattle.otel_otlp_read.proofs.resource.pair_lines.Given as goal

abbrev pub invariant-loop-pair : goal.invariant-loop-pair
invariant-loop-pair l = string_bytes l.lines ≡ pair_lines (take l.pair-index l.pairs)
