use Rattle.std.proofs.Common.{Some, ◌++◌, sym, ap, ◌∙◌}
use Rattle.std.proofs.lemmas.Bool.{cond-true}
use Rattle.std.specs.List.{filter_map}
use Rattle.opentelemetry.specs.Members.{pieces_at, semicolon}
use Rattle.otel_propagation.specs.BaggagePieces.{properties_after}
use Rattle.otel_propagation.specs.StrictBaggage.{checked_metadata, strict_metadata_of, strict_property}
use Rattle.otel_propagation.proofs.StrictPairs.{onto_join}
use Rattle.otel_propagation.proofs.propagation.strict_baggage.read.read_properties.Goals as goal

pub returns-in_default : goal.returns-in_default
unfolding strict_metadata_of
returns-in_default c = ap Some c.new-metadata.ensures.bytes ∙ sym (ap (λ p. checked_metadata (properties_after p)) c.in_default.is)

pub returns : goal.returns
unfolding strict_metadata_of
returns c =
    let properties = pieces_at semicolon c.in-Some.properties.now in
    ap Some (c.in_ok-push_properties.ensures ∙ (λ i. c.new-metadata.ensures.bytes i ++ onto_join (filter_map strict_property properties) i))
    ∙ sym (cond-true _ _ _ (sym c.are_properties.ensures ∙ c.if-not-are_properties.false))
    ∙ sym (ap (λ p. checked_metadata (properties_after p)) c.in-Some.is)
