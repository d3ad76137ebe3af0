-- The propagators that names configure, those of the caller among them.
use Rattle.std.specs.Prelude.{ℕ, List, Option, Some, option_map, if◌then◌else◌}
use Rattle.std.specs.Str.{bytes_eq}
use Rattle.otel_propagation.specs.NamedPropagators.{baggage_name, strict_baggage_name, trace_context_name}
use Rattle.otel_propagation.specs.declared.propagation.propagator_kinds.PropagatorOf.{PropagatorOf}
use Rattle.otel_propagation.specs.declared.propagation.propagator_kinds.PropagatorOf.TheVariants as kinds

-- the propagator of a name, where the custom ones have these names
abbrev pub propagator_named : {C : Type 0} → (List ℕ → Option C) → List ℕ → Option (PropagatorOf C)
propagator_named custom name =
    if bytes_eq name trace_context_name then Some (kinds.TraceContext (record {}))
    else if bytes_eq name baggage_name then Some (kinds.Baggage (record {}))
    else if bytes_eq name strict_baggage_name then Some (kinds.StrictBaggage (record {}))
    else option_map kinds.Custom (custom name)
