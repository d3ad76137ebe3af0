use Rattle.std.proofs.Common.{◌≡◌, ◌++◌, map, string_bytes}
use Rattle.std.specs.BTreeMap.{keys}
use Rattle.opentelemetry.proofs.propagation.map_carrier.names_of.Given as goal

abbrev pub invariant-loop-name : goal.invariant-loop-name
invariant-loop-name l = map (λ name. name.now) l.names.items ++ map (λ name. string_bytes name) l.name-iterator ≡ map (λ name. string_bytes name) (keys l.texts)
