use Rattle.std.proofs.Common.{◌≡◌, All, map}
use Rattle.std.specs.Str.{trim}
use Rattle.otel_propagation.specs.NamedPropagators.{HasItsKind, is_name, name_of, names_where}
use Rattle.otel_propagation.proofs.propagation.named.named_propagators.Given as goal

abbrev pub invariant-members : goal.invariant-members
invariant-members l = record {
  names : map name_of l.named.items ≡ names_where is_name (map trim (map (λ x. x.now) l.yielded));
  kinds : All HasItsKind l.named.items;
}
