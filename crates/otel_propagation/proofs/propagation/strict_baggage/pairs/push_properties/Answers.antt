use Rattle.std.proofs.Common.{List, ℕ, ◌++◌, map, string_bytes, sym, ap, ◌∙◌, subst, lit<}
use Rattle.std.specs.List.{filter_map}
use Rattle.std.proofs.lemmas.List.{map_push}
use Rattle.std.proofs.lemmas.Iterator.Consumers.{YieldsList-at, YieldsList-end}
use Rattle.std.proofs.lemmas.Iterator.Splits.{YieldsList-from_str_split}
use Rattle.otel_propagation.specs.StrictBaggage.{properties_onto, strict_property}
use Rattle.otel_propagation.proofs.StrictPairs.{ArePushed, pushed_more}
use Rattle.otel_propagation.proofs.propagation.strict_baggage.pairs.push_properties.Goals as goal

pub properties-preserved : goal.properties-preserved
properties-preserved c =
    subst (λ (pieces : List (List ℕ)). ArePushed pieces c.args.is_first c.in_ok-is_first.is_first (string_bytes c.args.text.now) (string_bytes c.push_property.new.text))
    (sym (map_push (λ x. x.now) c.properties.yielded c.in-Some.property))
    (pushed_more (map (λ x. x.now) c.properties.yielded) c.in-Some.property.now c.args.is_first c.properties.is_first c.in_ok-is_first.is_first (string_bytes c.args.text.now) _ _
    c.properties.invariant c.in_ok-is_first.ensures.text c.in_ok-is_first.ensures.first)

pub returns : goal.returns
returns c =
    let pieces = YieldsList-at c.into_iter-property-iterator.ensures.into_iter_gives
    (YieldsList-from_str_split 59 c.args.properties.now (lit< tt) c.split-property-items.ensures.text c.split-property-items.ensures.has_more c.split-property-items.ensures.pattern) in
    c.properties.invariant.text
    ∙ ap (λ (ps : List (List ℕ)). string_bytes c.args.text.now ++ properties_onto c.args.is_first (filter_map strict_property ps))
    (YieldsList-end pieces c.properties.yielded _ c.properties.yielded_by _ _ c.in-None.is c.next.ensures.steps).0
