-- A member without an equals sign says no entry, and a header without one has such members alone.
use Rattle.std.proofs.Common.{◌≡◌, ◌==◌, ℕ, List, [], ◌∷◌, All, None, take, refl, sym, ap, ◌∙◌, subst}
use Rattle.std.proofs.lemmas.List.Elements.{All-head, All-take}
use Rattle.std.proofs.lemmas.List.Splits.{slice_split_none}
use Rattle.opentelemetry.specs.Members.{HasNo, comma, equals_sign}
use Rattle.otel_propagation.specs.BaggageHeader.{entry_of_member, entry_of_parts, metadata_of, paired_entry}
use Rattle.opentelemetry.specs.Members.{pieces_at, semicolon}
use Rattle.otel_propagation.proofs.BaggagePieceLemmas.{lacks, pieces_lack}

-- a text without one is one piece
pub whole : (text : List ℕ) → HasNo equals_sign text → pieces_at equals_sign text ≡ text ∷ []
whole text none = slice_split_none (λ b. b == equals_sign) text (lacks equals_sign text none)

-- so nothing parts it
pub not_cut : (text name value : List ℕ) (more : List (List ℕ)) → pieces_at equals_sign text ≡ name ∷ value ∷ more → HasNo equals_sign text → ⊥
not_cut text name value more cut none = let one : text ∷ [] ≡ name ∷ value ∷ more = sym (whole text none) ∙ cut in absurd cc

-- and it is no pair
pub no_pair : (text metadata : List ℕ) → HasNo equals_sign text → paired_entry (pieces_at equals_sign text) metadata ≡ None
no_pair text metadata none = ap (λ pieces. paired_entry pieces metadata) (whole text none)

-- nor has what stands in front of the first semicolon one
pub front_has_none : (member pair : List ℕ) (properties : List (List ℕ)) → pieces_at semicolon member ≡ pair ∷ properties → HasNo equals_sign member → HasNo equals_sign pair
front_has_none member pair properties cut none = All-head (HasNo equals_sign) pair properties (subst (All (HasNo equals_sign)) cut (pieces_lack semicolon equals_sign member none))

-- a member without one says no entry
pub no_entry : (member : List ℕ) → HasNo equals_sign member → entry_of_member member ≡ None
unfolding entry_of_member
no_entry member none = by (pieces_at semicolon member) (pieces_lack semicolon equals_sign member none)
  where
    by : (pieces : List (List ℕ)) → All (HasNo equals_sign) pieces → entry_of_parts pieces ≡ None
    by [] all = refl
    by (pair ∷ properties) all = no_pair pair (metadata_of properties) (All-head (HasNo equals_sign) pair properties all)

-- the members that are looked at
pub members_have_none : (header : List ℕ) → HasNo equals_sign header → All (HasNo equals_sign) (take 64 (pieces_at comma header))
members_have_none header none = All-take (HasNo equals_sign) 64 (pieces_at comma header) (pieces_lack comma equals_sign header none)
