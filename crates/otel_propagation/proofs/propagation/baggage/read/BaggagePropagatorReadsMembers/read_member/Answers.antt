use Rattle.std.proofs.Common.{[], Some, string_bytes, sym, ap, ◌∙◌}
use Rattle.std.specs.Option.{option_map}
use Rattle.opentelemetry.specs.Baggage.{entry_of}
use Rattle.otel_propagation.specs.BaggageHeader.{metadata_of}
use Rattle.otel_propagation.specs.BaggagePieces.{entry_with, properties_after}
use Rattle.otel_propagation.proofs.BaggageBounds.{member_within}
use Rattle.otel_propagation.proofs.BaggageNoEntries.{front_has_none, no_entry, no_pair}
use Rattle.otel_propagation.proofs.BaggagePieceLemmas.{member_says}
use Rattle.otel_propagation.proofs.propagation.baggage.read.BaggagePropagatorReadsMembers.read_member.Goals as goal

pub returns-in_default-clause-read : goal.returns-in_default-clause-read
returns-in_default-clause-read c =
    let pair = c.split_properties.result.0.now in
    let properties = properties_after c.split_properties.result.1 in
    sym (ap (option_map (entry_with (metadata_of properties))) c.in_default.is)
    ∙ c.in_ok-name.ensures.read (metadata_of properties)
    ∙ sym (member_says c.args.member.now pair properties c.split_properties.ensures)

pub returns-clause-read : goal.returns-clause-read
returns-clause-read c =
    let pair = c.split_properties.result.0.now in
    let properties = properties_after c.split_properties.result.1 in
    ap Some c.new.ensures
    ∙ ap (λ m. Some (entry_of (string_bytes c.in-Some.name) (string_bytes c.in-Some.value) m)) (c.new-metadata.ensures ∙ c.in_ok-read_metadata.ensures)
    ∙ sym (ap (option_map (entry_with (metadata_of properties))) c.in-Some.is)
    ∙ c.in_ok-name.ensures.read (metadata_of properties)
    ∙ sym (member_says c.args.member.now pair properties c.split_properties.ensures)

pub returns-in_err-name-clause-free : goal.returns-in_err-name-clause-free
returns-in_err-name-clause-free c none =
    let ok = c.in_err-name.ensures.free (front_has_none c.args.member.now _ _ c.split_properties.ensures none) in
    absurd cc

pub returns-in_err-read_metadata-clause-free : goal.returns-in_err-read_metadata-clause-free
returns-in_err-read_metadata-clause-free c none =
    let unread =
    sym (ap (option_map (entry_with [])) c.in-Some.is) ∙ c.in_ok-name.ensures.read []
    ∙ no_pair c.split_properties.result.0.now [] (front_has_none c.args.member.now _ _ c.split_properties.ensures none) in
    absurd cc

pub returns-clause-within : goal.returns-clause-within
returns-clause-within c = member_within c.args.member.now c.new.result (sym (returns-clause-read c))

pub returns-clause-none : goal.returns-clause-none
returns-clause-none c none =
    let unread = returns-clause-read c ∙ no_entry c.args.member.now none in
    absurd cc
