use Rattle.std.proofs.Common.{List, ℕ, Option, Some, string_bytes, sym, ap, ◌∙◌}
use Rattle.std.specs.Borrow.{Bor}
use Rattle.std.specs.Option.{option_map}
use Rattle.opentelemetry.specs.Baggage.{entry_of}
use Rattle.otel_propagation.specs.BaggagePieces.{properties_after}
use Rattle.otel_propagation.specs.StrictBaggage.{plain_pair, strict_paired_entry, valued_entry}
use Rattle.otel_propagation.proofs.StrictBounds.{member_within}
use Rattle.otel_propagation.proofs.StrictNoEntries.{no_strict_entry, no_value}
use Rattle.otel_propagation.proofs.StrictPairs.{member_paired, member_valued}
use Rattle.otel_propagation.proofs.propagation.strict_baggage.read.StrictBaggagePropagatorReadsMembers.read_member.Goals as goal

pub returns-in_default-clause-read : goal.returns-in_default-clause-read
returns-in_default-clause-read c =
    let properties = properties_after c.split_properties.result.1 in
    sym (ap (λ (r : Option (Bor (List ℕ) × Option (Bor (List ℕ)))). strict_paired_entry (option_map plain_pair r) properties) c.in_default.is)
    ∙ member_paired c.args.member.now c.split_properties.result.0.now properties c.read_pair.result c.split_properties.ensures c.read_pair.ensures

pub returns-in_default-value-clause-read : goal.returns-in_default-value-clause-read
returns-in_default-value-clause-read c =
    let properties = properties_after c.split_properties.result.1 in
    sym (ap (λ (v : Option (Bor (List ℕ))). valued_entry c.in-Some.key.now (option_map (λ x. x.now) v) properties) c.in_default-value.is)
    ∙ member_valued c.args.member.now c.split_properties.result.0.now properties c.in-Some.key c.in-Some.value c.read_pair.result c.split_properties.ensures c.read_pair.ensures c.in-Some.is

pub returns-in_default-2-clause-read : goal.returns-in_default-2-clause-read
returns-in_default-2-clause-read c =
    let properties = properties_after c.split_properties.result.1 in
    ap (option_map (entry_of c.in-Some.key.now c.in-Some-value.value.now)) (sym (ap (option_map string_bytes) c.in_default-2.is) ∙ c.in_ok-metadata.ensures)
    ∙ sym (ap (λ (v : Option (Bor (List ℕ))). valued_entry c.in-Some.key.now (option_map (λ x. x.now) v) properties) c.in-Some-value.is)
    ∙ member_valued c.args.member.now c.split_properties.result.0.now properties c.in-Some.key c.in-Some.value c.read_pair.result c.split_properties.ensures c.read_pair.ensures c.in-Some.is

pub returns-clause-read : goal.returns-clause-read
returns-clause-read c =
    let properties = properties_after c.split_properties.result.1 in
    ap Some c.new-2.ensures
    ∙ (λ i. Some (entry_of (c.in_ok-key.ensures.ok i) (c.in_ok-value.ensures.ok i) (c.new.ensures i)))
    ∙ ap (option_map (entry_of c.in-Some.key.now c.in-Some-value.value.now)) (sym (ap (option_map string_bytes) c.in-Some-2.is) ∙ c.in_ok-metadata.ensures)
    ∙ sym (ap (λ (v : Option (Bor (List ℕ))). valued_entry c.in-Some.key.now (option_map (λ x. x.now) v) properties) c.in-Some-value.is)
    ∙ member_valued c.args.member.now c.split_properties.result.0.now properties c.in-Some.key c.in-Some.value c.read_pair.result c.split_properties.ensures c.read_pair.ensures c.in-Some.is

pub returns-clause-within : goal.returns-clause-within
returns-clause-within c = member_within c.args.member.now c.new-2.result (sym (returns-clause-read c))

pub returns-clause-none : goal.returns-clause-none
returns-clause-none c none =
    let unread = returns-clause-read c ∙ no_strict_entry c.args.member.now none in
    absurd cc

pub returns-in_err-metadata-clause-free : goal.returns-in_err-metadata-clause-free
returns-in_err-metadata-clause-free c none =
    let read = ap (λ (v : Option (Bor (List ℕ))). option_map plain_pair (Some (c.in-Some.key, v))) (sym c.in-Some-value.is) ∙ ap (option_map plain_pair) (sym c.in-Some.is) ∙ c.read_pair.ensures in
    absurd (no_value c.args.member.now c.split_properties.result.0.now (properties_after c.split_properties.result.1) c.in-Some.key c.in-Some-value.value c.split_properties.ensures read none)

pub returns-in_err-key-clause-free : goal.returns-in_err-key-clause-free
returns-in_err-key-clause-free c none =
    let read = ap (λ (v : Option (Bor (List ℕ))). option_map plain_pair (Some (c.in-Some.key, v))) (sym c.in-Some-value.is) ∙ ap (option_map plain_pair) (sym c.in-Some.is) ∙ c.read_pair.ensures in
    absurd (no_value c.args.member.now c.split_properties.result.0.now (properties_after c.split_properties.result.1) c.in-Some.key c.in-Some-value.value c.split_properties.ensures read none)

pub returns-in_err-value-clause-free : goal.returns-in_err-value-clause-free
returns-in_err-value-clause-free c none =
    let read = ap (λ (v : Option (Bor (List ℕ))). option_map plain_pair (Some (c.in-Some.key, v))) (sym c.in-Some-value.is) ∙ ap (option_map plain_pair) (sym c.in-Some.is) ∙ c.read_pair.ensures in
    absurd (no_value c.args.member.now c.split_properties.result.0.now (properties_after c.split_properties.result.1) c.in-Some.key c.in-Some-value.value c.split_properties.ensures read none)
