use Rattle.std.proofs.Common.{List, ℕ, map, string_bytes, sym, ap, ◌∙◌, subst, lit<}
use Rattle.std.proofs.lemmas.List.{map_push}
use Rattle.std.proofs.lemmas.Iterator.Consumers.{YieldsList-at, YieldsList-end}
use Rattle.std.proofs.lemmas.Iterator.Splits.{YieldsList-from_str_split}
use Rattle.otel_propagation.specs.BaggageHeader.{metadata_of}
use Rattle.otel_propagation.specs.BaggagePieces.{properties_after}
use Rattle.otel_propagation.proofs.BaggagePieceLemmas.{Gathers, gathers_none, gathers_more}
use Rattle.otel_propagation.proofs.propagation.baggage.read.read_metadata.Goals as goal

pub returns-in_default : goal.returns-in_default
unfolding metadata_of
returns-in_default c = c.new.ensures.bytes ∙ sym (ap (λ p. metadata_of (properties_after p)) c.in_default.is)

pub properties-init : goal.properties-init
properties-init c = gathers_none _ c.in_ok-metadata.ensures.bytes

pub properties-preserved : goal.properties-preserved
properties-preserved c =
    subst (λ (pieces : List (List ℕ)). Gathers pieces c.in_ok-is_first.is_first (string_bytes c.push_property.new.metadata))
    (sym (map_push (λ x. x.now) c.properties.yielded c.in-Some-property.property))
    (gathers_more (map (λ x. x.now) c.properties.yielded) c.in-Some-property.property.now c.properties.is_first c.in_ok-is_first.is_first _ _ c.properties.invariant
    c.in_ok-is_first.ensures.text c.in_ok-is_first.ensures.first)

pub returns : goal.returns
returns c =
    let pieces = YieldsList-at c.into_iter-property-iterator.ensures.into_iter_gives
    (YieldsList-from_str_split 59 c.in-Some.properties.now (lit< tt) c.split-property-items.ensures.text c.split-property-items.ensures.has_more c.split-property-items.ensures.pattern) in
    c.properties.invariant.text
    ∙ ap metadata_of (YieldsList-end pieces c.properties.yielded _ c.properties.yielded_by _ _ c.in-None.is c.next.ensures.steps).0
    ∙ sym (ap (λ p. metadata_of (properties_after p)) c.in-Some.is)
