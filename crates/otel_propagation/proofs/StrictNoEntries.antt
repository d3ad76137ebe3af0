-- A member without an equals sign says no entry by the grammar.
use Rattle.std.proofs.Common.{◌≡◌, ℕ, List, [], ◌∷◌, All, Option, Some, None, refl, ap, ◌∙◌, subst}
use Rattle.std.specs.Borrow.{Bor}
use Rattle.std.specs.Option.{option_map}
use Rattle.std.proofs.lemmas.Bool.{cond_both}
use Rattle.std.proofs.lemmas.List.Elements.{All-head}
use Rattle.opentelemetry.specs.Members.{HasNo, equals_sign, pieces_at, semicolon}
use Rattle.opentelemetry.specs.Tracestate.{trimmed}
use Rattle.otel_propagation.specs.StrictGrammar.{is_token}
use Rattle.otel_propagation.specs.StrictBaggage.{checked_key, pair_of_cut, plain_pair, strict_entry_of_member, strict_entry_of_parts, strict_pair, strict_paired_entry, StrictPair}
use Rattle.otel_propagation.proofs.BaggageNoEntries.{front_has_none}
use Rattle.otel_propagation.proofs.BaggagePieceLemmas.{lacks, pieces_lack}
use Rattle.otel_propagation.proofs.StrictBytes.{cut_none}

-- a text without one is a key alone, if it is a pair
key_alone : (text : List ℕ) → HasNo equals_sign text → strict_pair text ≡ checked_key (trimmed text)
unfolding strict_pair
key_alone text none = ap (pair_of_cut text) (cut_none equals_sign text (lacks equals_sign text none))

no_pair : (pair : List ℕ) (properties : List (List ℕ)) → HasNo equals_sign pair → strict_paired_entry (strict_pair pair) properties ≡ None
no_pair pair properties none =
    ap (λ (p : Option StrictPair). strict_paired_entry p properties) (key_alone pair none)
    ∙ cond_both (is_token (trimmed pair)) (Some (trimmed pair, None)) None (λ (p : Option StrictPair). strict_paired_entry p properties ≡ None) (λ _. refl) (λ _. refl)

-- a member without one says no entry
pub no_strict_entry : (member : List ℕ) → HasNo equals_sign member → strict_entry_of_member member ≡ None
unfolding strict_entry_of_member
no_strict_entry member none = by (pieces_at semicolon member) (pieces_lack semicolon equals_sign member none)
  where
    by : (pieces : List (List ℕ)) → All (HasNo equals_sign) pieces → strict_entry_of_parts pieces ≡ None
    by [] all = refl
    by (pair ∷ properties) all = no_pair pair properties (All-head (HasNo equals_sign) pair properties all)

-- a pair has a value
abbrev HasValue : Option StrictPair → Type 0
HasValue None = ⊥
HasValue (Some pair) = by pair.1
  where
    by : Option (List ℕ) → Type 0
    by None = ⊥
    by (Some value) = Unit {0}

-- so its pair has no value
pub no_value : (member pair : List ℕ) (properties : List (List ℕ)) (key value : Bor (List ℕ)) → pieces_at semicolon member ≡ pair ∷ properties → option_map plain_pair (Some (key, Some value)) ≡ strict_pair pair
    → HasNo equals_sign member → ⊥
no_value member pair properties key value cut read none =
    cond_both (is_token (trimmed pair)) (Some (trimmed pair, None)) None (λ (p : Option StrictPair). HasValue p → ⊥) (λ _ has. has) (λ _ has. has)
    (subst HasValue (read ∙ key_alone pair (front_has_none member pair properties cut none)) tt)
