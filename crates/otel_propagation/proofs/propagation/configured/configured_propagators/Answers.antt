use Rattle.std.proofs.Common.{string_bytes, is_none, map, ◌∙◌}
use Rattle.std.specs.Vec.Iter.{into_iter_items}
use Rattle.otel_propagation.specs.ConfiguredPropagators.{propagator_named}
use Rattle.otel_propagation.specs.NamedPropagators.{HasItsKind, name_of}
use Rattle.otel_propagation.proofs.ConfiguredLemmas.{items_left, known_after, unknown_after}
use Rattle.otel_propagation.proofs.propagation.configured.configured_propagators.Goals as goal

pub loop-named-preserved : goal.loop-named-preserved
loop-named-preserved g c =
    let of = propagator_named (g.N.CustomPropagators.custom_named c.args.custom.now) in
    let items = into_iter_items c.loop-named.named-iterator in
    let rest = into_iter_items c.next.new.self in record {
      kinds = items_left HasItsKind items rest c.in-Some.named c.in-Some.ensures.steps.0 c.loop-named.invariant.kinds;
      propagators =
          known_after of name_of c.loop-named.propagators.items c.put_named.new.propagators.items items rest c.in-Some.named
          c.in-Some.ensures.steps.0 c.in_ok-put_named.ensures.known
          ∙ c.loop-named.invariant.propagators;
      unknown =
          unknown_after (λ name. is_none (of name)) name_of (map string_bytes c.loop-named.unknown.items)
          (map string_bytes c.put_named.new.unknown.items) items rest c.in-Some.named
          c.in-Some.ensures.steps.0 c.in_ok-put_named.ensures.unknown
          ∙ c.loop-named.invariant.unknown;
    }
