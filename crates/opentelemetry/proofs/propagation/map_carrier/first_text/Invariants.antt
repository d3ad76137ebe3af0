use Rattle.std.proofs.Common.{◌≡◌}
use Rattle.opentelemetry.specs.TextMap.{first_text}
use Rattle.opentelemetry.proofs.propagation.map_carrier.first_text.Given as goal

abbrev pub invariant-loop-name : goal.invariant-loop-name
invariant-loop-name l = first_text l.key l.name-iterator ≡ first_text l.key l.texts.entries
