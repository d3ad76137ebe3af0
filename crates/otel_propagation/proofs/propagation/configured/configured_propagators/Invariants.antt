use Rattle.std.proofs.Common.{◌≡◌, ◌++◌, All, filter_map, is_none, map, string_bytes}
use Rattle.std.specs.List.{filter}
use Rattle.std.specs.Option.{option_copied}
use Rattle.std.specs.Vec.Iter.{into_iter_items}
use Rattle.otel_propagation.specs.ConfiguredPropagators.{propagator_named}
use Rattle.otel_propagation.specs.NamedPropagators.{HasItsKind, name_of, names_in, text_or_default}
use Rattle.otel_propagation.proofs.propagation.configured.configured_propagators.Given as goal

abbrev pub invariant-loop-named : goal.invariant-loop-named
invariant-loop-named g l = record {
  kinds : All HasItsKind (into_iter_items l.named-iterator);
  propagators : l.propagators.items ++ filter_map (propagator_named (g.N.CustomPropagators.custom_named l.custom)) (map name_of (into_iter_items l.named-iterator))
      ≡ filter_map (propagator_named (g.N.CustomPropagators.custom_named l.custom)) (names_in (text_or_default (option_copied l.fn.text)));
  unknown : map string_bytes l.unknown.items ++ filter (λ name. is_none (propagator_named (g.N.CustomPropagators.custom_named l.custom) name)) (map name_of (into_iter_items l.named-iterator))
      ≡ filter (λ name. is_none (propagator_named (g.N.CustomPropagators.custom_named l.custom) name)) (names_in (text_or_default (option_copied l.fn.text)));
}
