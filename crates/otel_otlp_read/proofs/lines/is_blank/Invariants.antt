-- The bytes so far are white space.
use Rattle.std.proofs.Common.{◌≡◌, drop}
use Rattle.otel_otlp_read.specs.Inputs.{is_blank}
use Rattle.otel_otlp_read.proofs.lines.is_blank.Given as goal

abbrev pub invariant-loop-byte : goal.invariant-loop-byte
invariant-loop-byte l = is_blank (drop l.byte-index l.line) ≡ is_blank l.line
