-- What is read of any header is of the grammar, so it is written as it was read; and a header crosses a service.
use Rattle.std.proofs.Common.{◌≡◌, ◌≢◌, ℕ, ◌≤◌, not, List, [], ◌∷◌, length, take, Option, Some, None, Ok, unwrap_or, refl, sym, ap, ◌∙◌, arith}
use Rattle.std.specs.List.{AllByRecursion, cons_option, filter_map}
use Rattle.std.specs.Option.{option_map}
use Rattle.std.specs.Str.{bytes_eq}
use Rattle.std.proofs.lemmas.Bool.{cond-true, cond_both}
use borrow.Author.Tests.{le-leb}
use Rattle.opentelemetry.specs.Baggage.{PlainBaggage, PlainBaggageEntry, entry_of, HasDistinctNames}
use Rattle.opentelemetry.specs.Carrier.{Texts}
use Rattle.opentelemetry.specs.Members.{comma, pieces_at, semicolon}
use Rattle.opentelemetry.specs.Plain.{PlainContext}
use Rattle.otel_propagation.specs.BaggageHeader.{baggage_field, last_of_name, of_other_names, one_a_name}
use Rattle.otel_propagation.specs.StrictGrammar.{without_blanks, IsBaggageHeader}
use Rattle.otel_propagation.specs.StrictBaggage.{are_properties, read_strict, spelled_header, strict_entries_of, strict_entry_of_member, strict_entry_of_parts, strict_header_of, strict_metadata_of, strict_pair, strict_paired_entry, strict_property, valued_entry, written_entries, ExtractsStrictBaggage, InjectsStrictBaggage, StrictPair}
use Rattle.otel_propagation.proofs.StrictPairs.{pair_keyed, properties_tight, IsKeyed, IsKeyedPair}
use Rattle.otel_propagation.proofs.StrictWrites.{header_some}
use Rattle.otel_propagation.proofs.StrictHeaders.{entries_stay, header_passed_on, members_bare, some_entries, IsTightEntry}

-- an entry that was read is of the grammar
abbrev IsTightIfRead : Option PlainBaggageEntry → Type 0
IsTightIfRead None = Unit {0}
IsTightIfRead (Some e) = IsTightEntry e

valued_tight : (key : List ℕ) (value : Option (List ℕ)) (properties : List (List ℕ)) → IsKeyed key value → IsTightIfRead (valued_entry key value properties)
unfolding strict_metadata_of
valued_tight key None properties keyed = tt
valued_tight key (Some value) properties keyed =
    cond_both (are_properties properties) (Some (strict_metadata_of properties)) None (λ metadata. IsTightIfRead (option_map (entry_of key value) metadata))
    (λ _. record {
      say = filter_map strict_property properties;
      key = keyed.0;
      value = keyed.1;
      properties = properties_tight properties;
      metadata = refl;
    })
    (λ _. tt)

paired_tight : (pair : Option StrictPair) (properties : List (List ℕ)) → IsKeyedPair pair → IsTightIfRead (strict_paired_entry pair properties)
paired_tight None properties keyed = tt
paired_tight (Some pair) properties keyed = valued_tight pair.0 pair.1 properties keyed

parts_tight : (parts : List (List ℕ)) → IsTightIfRead (strict_entry_of_parts parts)
parts_tight [] = tt
parts_tight (pair ∷ properties) = paired_tight (strict_pair pair) properties (pair_keyed pair)

member_tight : (member : List ℕ) → IsTightIfRead (strict_entry_of_member member)
unfolding strict_entry_of_member
member_tight member = parts_tight (pieces_at semicolon member)

read_onto : (e : Option PlainBaggageEntry) (es : PlainBaggage) → IsTightIfRead e → AllByRecursion IsTightEntry es → AllByRecursion IsTightEntry (cons_option e es)
read_onto None es tight rest = rest
read_onto (Some e) es tight rest = (tight, rest)

members_tight : (members : List (List ℕ)) → AllByRecursion IsTightEntry (filter_map strict_entry_of_member members)
members_tight [] = tt
members_tight (member ∷ more) = read_onto (strict_entry_of_member member) (filter_map strict_entry_of_member more) (member_tight member) (members_tight more)

-- one entry a name is one of them
last_tight : (e : PlainBaggageEntry) (es : PlainBaggage) → IsTightEntry e → AllByRecursion IsTightEntry es → IsTightEntry (last_of_name e es)
last_tight e [] tight rest = tight
last_tight e (l ∷ more) tight rest =
    let last = last_tight l more rest.0 rest.1 in
    let own = last_tight e more tight rest.1 in cond_both (bytes_eq e.key l.key) (last_of_name l more) (last_of_name e more) IsTightEntry (λ _. last) (λ _. own)

others_tight : (e : PlainBaggageEntry) (es : PlainBaggage) → AllByRecursion IsTightEntry es → AllByRecursion IsTightEntry (of_other_names e es)
others_tight e [] tight = tt
others_tight e (x ∷ es) tight =
    let rest = others_tight e es tight.1 in
    cond_both (not (bytes_eq e.key x.key)) (x ∷ of_other_names e es) (of_other_names e es) (AllByRecursion IsTightEntry) (λ _. (tight.0, rest)) (λ _. rest)

one_tight : (es : PlainBaggage) → AllByRecursion IsTightEntry es → AllByRecursion IsTightEntry (one_a_name es)
one_tight [] tight = tt
one_tight (e ∷ es) tight = (last_tight e es tight.0 tight.1, others_tight e (one_a_name es) (one_tight es tight.1))

read_tight : (header : List ℕ) → AllByRecursion IsTightEntry (strict_entries_of header)
unfolding strict_entries_of
read_tight header = one_tight (filter_map strict_entry_of_member (take 64 (pieces_at comma header))) (members_tight (take 64 (pieces_at comma header)))

-- whatever header was read
pub read_stays : (header : List ℕ) → written_entries (strict_entries_of header) ≡ strict_entries_of header
read_stays header = entries_stay (strict_entries_of header) (read_tight header)

no_header : (es : PlainBaggage) → es ≢ [] → spelled_header es ≡ [] → ⊥
no_header [] some none = some refl
no_header (e ∷ es) some none = let length_is = header_some e es in let empty = ap length none in absurd (omega arith)

-- a header that a service extracts it injects
pub crosses : (header : List ℕ) (es : PlainBaggage) (cx found : PlainContext) (texts old new : Texts) → IsBaggageHeader header es → HasDistinctNames es → length es ≤ 64 → length header ≤ 8192 → texts baggage_field ≡ Some header
    → ExtractsStrictBaggage cx texts found → InjectsStrictBaggage found old (Ok tt) new → new baggage_field ≡ Some (without_blanks header)
crosses header es cx found texts old new is distinct few short set extracts injects =
    let read : found.baggage ≡ strict_entries_of header =
    ap (λ (c : PlainContext). c.baggage) extracts ∙ ap (λ text. unwrap_or (read_strict text) cx.baggage) set
    ∙ ap (λ r. unwrap_or r cx.baggage) (cond-true _ _ _ (le-leb (length header) 8192 short)) in
    let same : strict_header_of found.baggage ≡ without_blanks header = ap strict_header_of read ∙ header_passed_on header es is distinct few in
    let some : strict_header_of found.baggage ≢ [] = λ none. no_header es (some_entries header es is.members) (sym (members_bare header es is.members) ∙ sym same ∙ none) in
    (injects.set some).set ∙ ap Some same
