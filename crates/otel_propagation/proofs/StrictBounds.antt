-- The entry that a member says by the grammar is no longer than the member.
use Rattle.std.proofs.Common.{◌≡◌, ℕ, ◌+◌, ◌-◌, ◌≤◌, List, [], ◌∷◌, length, Option, Some, None, refl, subst, arith, length-append}
use Rattle.std.specs.List.{cons_option, filter_map}
use Rattle.std.specs.Option.{option_map}
use Rattle.std.proofs.lemmas.Bool.{cond_both}
use Rattle.std.proofs.lemmas.List.Sums.{sum_by-cons}
use Rattle.opentelemetry.specs.Baggage.{PlainBaggageEntry, entry_of}
use Rattle.opentelemetry.specs.Members.{pieces_at, semicolon}
use Rattle.otel_propagation.specs.BaggagePieces.{IsNamedWithin}
use Rattle.otel_propagation.specs.StrictBaggage.{are_properties, spelled_pair, strict_entry_of_member, strict_entry_of_parts, strict_metadata_of, strict_pair, strict_paired_entry, strict_property, valued_entry, StrictPair}
use Rattle.otel_propagation.proofs.BaggageBounds.{joined_length, length-pieces_at, pieces_bytes}
use Rattle.otel_propagation.proofs.StrictPairs.{key_some, pair_keyed, pair_within, IsKeyed, IsKeyedPair}

said_within : (text : List ℕ) (pair : Option StrictPair) (rest : List (List ℕ)) → strict_pair text ≡ pair → pieces_bytes (cons_option (option_map spelled_pair pair) rest) ≤ length text + 1 + pieces_bytes rest
said_within text None rest is = omega arith
said_within text (Some pair) rest is =
    let own = pair_within text pair is in
    let all = sum_by-cons (λ (piece : List ℕ). length piece + 1) (spelled_pair pair) rest in omega arith

properties_within : (texts : List (List ℕ)) → pieces_bytes (filter_map strict_property texts) ≤ pieces_bytes texts
properties_within [] = omega arith
properties_within (text ∷ more) =
    let first = said_within text (strict_pair text) (filter_map strict_property more) refl in
    let rest = properties_within more in
    rw (sum_by-cons (λ (piece : List ℕ). length piece + 1) text more) (omega arith)

metadata_within : (texts : List (List ℕ)) → length (strict_metadata_of texts) ≤ pieces_bytes texts
unfolding strict_metadata_of
metadata_within texts =
    let joined = (joined_length semicolon (filter_map strict_property texts)).0 in
    let less = properties_within texts in omega arith

valued_within : (bound : ℕ) (key : List ℕ) (value : Option (List ℕ)) (properties : List (List ℕ)) (e : PlainBaggageEntry) → IsKeyed key value → length (spelled_pair (key, value)) + pieces_bytes properties ≤ bound
    → valued_entry key value properties ≡ Some e → IsNamedWithin bound e
valued_within bound key None properties e keyed short is = absurd (cc)
valued_within bound key (Some value) properties e keyed short is =
    cond_both (are_properties properties) (Some (strict_metadata_of properties)) None (λ metadata. option_map (entry_of key value) metadata ≡ Some e → IsNamedWithin bound e)
    (λ _ said.
    let same : entry_of key value (strict_metadata_of properties) ≡ e = cc in
    let metadata = metadata_within properties in
    let all = length-append key (61 ∷ value) in
    subst (IsNamedWithin bound) same (record { named = key_some key keyed.0; short = omega arith }))
    (λ _ said. absurd (cc)) is

paired_within : (bound : ℕ) (pair : Option StrictPair) (properties : List (List ℕ)) (e : PlainBaggageEntry) → IsKeyedPair pair
    → ((p : StrictPair) → pair ≡ Some p → length (spelled_pair p) + pieces_bytes properties ≤ bound) → strict_paired_entry pair properties ≡ Some e → IsNamedWithin bound e
paired_within bound None properties e keyed short is = absurd (cc)
paired_within bound (Some pair) properties e keyed short is = valued_within bound pair.0 pair.1 properties e keyed (short pair refl) is

parts_within : (parts : List (List ℕ)) (e : PlainBaggageEntry) → strict_entry_of_parts parts ≡ Some e → IsNamedWithin (pieces_bytes parts - 1) e
parts_within [] e is = absurd (cc)
parts_within (pair ∷ properties) e is =
    paired_within (pieces_bytes (pair ∷ properties) - 1) (strict_pair pair) properties e (pair_keyed pair)
    (λ p says. let own = pair_within pair p says in let all = sum_by-cons (λ (piece : List ℕ). length piece + 1) pair properties in omega arith) is

-- an entry that a member says has a name and is no longer than the member
pub member_within : (member : List ℕ) (e : PlainBaggageEntry) → strict_entry_of_member member ≡ Some e → IsNamedWithin (length member) e
unfolding strict_entry_of_member
member_within member e is =
    let own = parts_within (pieces_at semicolon member) e is in
    let cut = length-pieces_at semicolon member in record {
      named = own.named;
      short = let short = own.short in omega arith;
    }
