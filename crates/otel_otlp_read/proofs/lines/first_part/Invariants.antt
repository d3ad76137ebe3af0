-- The bytes so far belong to the first part.
use Rattle.std.proofs.Common.{◌≡◌, drop, take}
use Rattle.otel_otlp_read.specs.Cuts.{parts}
use Rattle.otel_otlp_read.proofs.PartReading.{onto_part}
use Rattle.otel_otlp_read.proofs.lines.first_part.Given as goal

abbrev pub invariant-loop-at : goal.invariant-loop-at
invariant-loop-at l = onto_part (take l.at l.text) (parts (drop l.at l.text)) ≡ parts l.text
