-- The attributes string, a member at a time; and that each text reads in one way, and in one way only.
use Rattle.std.proofs.Common.{◌≡◌, ◌≢◌, ◌⊎◌, inl, inr, ℕ, zero, suc, ◌+◌, ◌<◌, true, false, List, [], ◌∷◌, ◌++◌, length, get_or, Option, Some, None, cond, eqb, eq-eqb, ne_eqb, refl, sym, ap, subst, ◌∙◌, arith, append-nil, append_assoc, length-append}
use Rattle.std.proofs.lemmas.Bool.{eqb-true}
use Rattle.std.specs.List.{slice_split, onto_first}
use Rattle.opentelemetry.specs.Plain.{PlainKeyValue}
use Rattle.otel_resource.specs.Resource.{Attributes, union, attributes_of}
use Rattle.opentelemetry.specs.Members.{HasNo, comma, equals_sign}
use Rattle.otel_resource.specs.AttributesString.{IsMember, IsCut, AreRead, IsAttributesString, trimmed_pair}
use Rattle.otel_resource.proofs.AttributeLemmas.{union_assoc, attributes_of-append}

-- no place holds the byte
pub has_no_from_places : (c : ℕ) (bs : List ℕ) → ((i : ℕ) → i < length bs → get_or bs i 0 ≢ c) → HasNo c bs
has_no_from_places c [] h = tt
has_no_from_places c (b ∷ bs) h = (h 0 (omega arith), has_no_from_places c bs (λ i below. h (suc i) (omega arith)))

-- a member, a comma and the rest
pub string_more : (given member rest : List ℕ) (first others : List PlainKeyValue) → given ≡ member ++ comma ∷ rest → HasNo comma member → IsMember member first
    → IsAttributesString rest others → IsAttributesString given (first ++ others)
string_more given member rest first others e free is (members, cut, read) =
    (member ∷ members, (free, inr (rest, e, cut)), (first, others, is, read, refl))

-- the last member, with no comma after it
pub string_last : (member : List ℕ) (first : List PlainKeyValue) → HasNo comma member → IsMember member first → IsAttributesString member first
string_last member first free is = (member ∷ [], (free, inl (refl, refl)), (first, [], is, refl, sym (append-nil first)))

pub shorter_rest : (given member rest : List ℕ) → given ≡ member ++ comma ∷ rest → length rest < length given
shorter_rest given member rest e = let l : length given ≡ length member + length (comma ∷ rest) = ap length e ∙ length-append member (comma ∷ rest) in omega arith

after_byte : ℕ → Option (List ℕ × List ℕ) → Option (List ℕ × List ℕ)
after_byte b None = None
after_byte b (Some cut) = Some (b ∷ cut.0, cut.1)

-- where a byte stands first: what is before it and what is after it
first_cut : ℕ → List ℕ → Option (List ℕ × List ℕ)
first_cut c [] = None
first_cut c (b ∷ bs) = cond (eqb b c) (Some ([], bs)) (after_byte b (first_cut c bs))

first_cut-none : (c : ℕ) (bs : List ℕ) → HasNo c bs → first_cut c bs ≡ None
unfolding first_cut after_byte
first_cut-none c [] h = refl
first_cut-none c (b ∷ bs) h = rw (ne_eqb b c h.0) (ap (after_byte b) (first_cut-none c bs h.1))

first_cut-at : (c : ℕ) (xs ys : List ℕ) → HasNo c xs → first_cut c (xs ++ c ∷ ys) ≡ Some (xs, ys)
unfolding first_cut after_byte
first_cut-at c [] ys h = rw (eq-eqb c c refl) refl
first_cut-at c (x ∷ xs) ys h = rw (ne_eqb x c h.0) (ap (after_byte x) (first_cut-at c xs ys h.1))

pairs_at : Option (List ℕ × List ℕ) → List PlainKeyValue
pairs_at None = []
pairs_at (Some cut) = trimmed_pair cut.0 cut.1 ∷ []

-- the pairs of a member
member_pairs : List ℕ → List PlainKeyValue
member_pairs member = pairs_at (first_cut equals_sign member)

member_reads : (member : List ℕ) (pairs : List PlainKeyValue) → IsMember member pairs → pairs ≡ member_pairs member
unfolding member_pairs pairs_at
member_reads member pairs (inl (free, is)) = is ∙ ap pairs_at (sym (first_cut-none equals_sign member free))
member_reads member pairs (inr (key, value, cut, free, is)) =
    is ∙ ap pairs_at (sym (ap (first_cut equals_sign) cut ∙ first_cut-at equals_sign key value free))

split_commas : List ℕ → List (List ℕ)
split_commas given = slice_split (λ b. eqb b comma) given

split_commas-none : (given : List ℕ) → HasNo comma given → split_commas given ≡ given ∷ []
unfolding split_commas
split_commas-none [] h = refl
split_commas-none (b ∷ bs) h = rw (ne_eqb b comma h.0) (ap (onto_first b) (split_commas-none bs h.1))

split_commas-at : (member rest : List ℕ) → HasNo comma member → split_commas (member ++ comma ∷ rest) ≡ member ∷ split_commas rest
unfolding split_commas
split_commas-at [] rest h = refl
split_commas-at (b ∷ bs) rest h = rw (ne_eqb b comma h.0) (ap (onto_first b) (split_commas-at bs rest h.1))

all_pairs : List (List ℕ) → List PlainKeyValue
all_pairs [] = []
all_pairs (member ∷ more) = member_pairs member ++ all_pairs more

string_reads_last : (given member : List ℕ) (more : List (List ℕ)) (first others : List PlainKeyValue) → HasNo comma member → given ≡ member → more ≡ [] → IsMember member first → AreRead more others
    → first ++ others ≡ all_pairs (split_commas given)
unfolding all_pairs
string_reads_last given member more first others free is none reads read =
    let nothing : others ≡ [] = subst (λ (ms : List (List ℕ)). AreRead ms others) none read in
    (λ i. member_reads member first reads i ++ nothing i) ∙ ap all_pairs (sym (ap split_commas is ∙ split_commas-none member free))

string_reads_more : (given member rest : List ℕ) (first others : List PlainKeyValue) → HasNo comma member → given ≡ member ++ comma ∷ rest → IsMember member first → others ≡ all_pairs (split_commas rest)
    → first ++ others ≡ all_pairs (split_commas given)
unfolding all_pairs
string_reads_more given member rest first others free is reads read =
    (λ i. member_reads member first reads i ++ read i) ∙ ap all_pairs (sym (ap split_commas is ∙ split_commas-at member rest free))

string_reads : (given : List ℕ) (members : List (List ℕ)) (pairs : List PlainKeyValue) → IsCut given members → AreRead members pairs → pairs ≡ all_pairs (split_commas given)
unfolding all_pairs split_commas member_pairs pairs_at first_cut
string_reads given [] pairs cut read = read ∙ ap (λ t. all_pairs (split_commas t)) (sym cut)
string_reads given (member ∷ more) pairs (free, inl (is, none)) (first, others, reads, read, joined) =
    joined ∙ string_reads_last given member more first others free is none reads read
string_reads given (member ∷ more) pairs (free, inr (rest, is, cut)) (first, others, reads, read, joined) =
    joined ∙ string_reads_more given member rest first others free is reads (string_reads rest more others cut read)

-- a text reads one way only
pub string_reads_once : (given : List ℕ) (pairs others : List PlainKeyValue) → IsAttributesString given pairs → IsAttributesString given others → pairs ≡ others
string_reads_once given pairs others (members, cut, read) (members', cut', read') =
    string_reads given members pairs cut read ∙ sym (string_reads given members' others cut' read')

-- a byte stands nowhere in a text, or first after some bytes without it
Cut : ℕ → List ℕ → Type 0
Cut c bs = HasNo c bs ⊎ ((before : List ℕ) × (after : List ℕ) × (bs ≡ before ++ c ∷ after) × HasNo c before)

cut_after : (c b : ℕ) (bs : List ℕ) → b ≢ c → Cut c bs → Cut c (b ∷ bs)
unfolding Cut
cut_after c b bs other (inl free) = inl (other, free)
cut_after c b bs other (inr (before, after, is, free)) = inr (b ∷ before, after, ap (λ t. b ∷ t) is, (other, free))

some_cut : (c : ℕ) (bs : List ℕ) → Cut c bs
unfolding Cut
some_cut c [] = inl tt
some_cut c (b ∷ bs) = elim (eqb b c) as (λ r. eqb b c ≡ r → Cut c (b ∷ bs)) [
  | true ↦ λ same. inr ([], bs, ap (λ x. x ∷ bs) (eqb-true b c same), tt)
  | false ↦ λ other. cut_after c b bs (λ same. absurd (true_is_not_false (sym (eq-eqb b c same) ∙ other))) (some_cut c bs)
] refl
  where
    true_is_not_false : true ≡ false → ⊥
    true_is_not_false e = cc

some_member : (member : List ℕ) → Cut equals_sign member → (pairs : List PlainKeyValue) × IsMember member pairs
unfolding Cut
some_member member (inl free) = ([], inl (free, refl))
some_member member (inr (key, value, is, free)) = (trimmed_pair key value ∷ [], inr (key, value, is, free, refl))

some_rest : (n : ℕ) (given : List ℕ) → length given < suc n → ((rest : List ℕ) → length rest < n → (pairs : List PlainKeyValue) × IsAttributesString rest pairs)
    → Cut comma given → (pairs : List PlainKeyValue) × IsAttributesString given pairs
unfolding Cut
some_rest n given short others (inl free) =
    let (first, is) = some_member given (some_cut equals_sign given) in (first, string_last given first free is)
some_rest n given short others (inr (member, rest, is, free)) =
    let (first, reads) = some_member member (some_cut equals_sign member) in
    let less = shorter_rest given member rest is in
    let (more, read) = others rest (omega arith) in
    (first ++ more, string_more given member rest first more is free reads read)

some_reading : (n : ℕ) (given : List ℕ) → length given < n → (pairs : List PlainKeyValue) × IsAttributesString given pairs
some_reading zero given short = absurd (omega arith)
some_reading (suc n) given short = some_rest n given short (some_reading n) (some_cut comma given)

-- a text reads in some way
pub string_reads_some : (given : List ℕ) → (pairs : List PlainKeyValue) × IsAttributesString given pairs
string_reads_some given = some_reading (suc (length given)) given (omega arith)

-- a text is read up to a rest: what was found is put over the attributes, and whatever completes the rest completes it
pub record ReadSoFar (given rest : List ℕ) (base now : Attributes) : Type 0 where
  pub found : List PlainKeyValue
  pub put : now ≡ union base (attributes_of found)
  pub completes : (others : List PlainKeyValue) → IsAttributesString rest others → IsAttributesString given (found ++ others)

next_put : (base now next : Attributes) (found more : List PlainKeyValue) → now ≡ union base (attributes_of found) → next ≡ union now (attributes_of more)
    → next ≡ union base (attributes_of (found ++ more))
next_put base now next found more so_far put =
    put ∙ ap (λ m. union m (attributes_of more)) so_far ∙ union_assoc base (attributes_of found) (attributes_of more)
    ∙ ap (union base) (sym (attributes_of-append found more))

-- one member more is read
pub member_read : (given rest member more : List ℕ) (base now next : Attributes) (first : List PlainKeyValue) → ReadSoFar given rest base now
    → rest ≡ member ++ comma ∷ more → HasNo comma member → IsMember member first → next ≡ union now (attributes_of first) → ReadSoFar given more base next
member_read given rest member more base now next first s is free reads put = record {
  found = s.found ++ first;
  put = next_put base now next s.found first s.put put;
  completes = λ others read. subst (λ (ps : List PlainKeyValue). IsAttributesString given ps) (sym (append_assoc s.found first others))
      (s.completes (first ++ others) (string_more rest member more first others is free reads read));
}

-- the last member is read
pub last_read : (given rest : List ℕ) (base now next : Attributes) (first : List PlainKeyValue) → ReadSoFar given rest base now
    → HasNo comma rest → IsMember rest first → next ≡ union now (attributes_of first)
    → (pairs : List PlainKeyValue) × IsAttributesString given pairs × (next ≡ union base (attributes_of pairs))
last_read given rest base now next first s free reads put =
    (s.found ++ first, s.completes first (string_last rest first free reads), next_put base now next s.found first s.put put)

something_in : (found others : List PlainKeyValue) (p : PlainKeyValue) → [] ≡ found ++ (p ∷ others) → ⊥
something_in [] others p e = cc
something_in (q ∷ found) others p e = cc

-- a text with a pair in it does not read as nothing
pub member_refused : (given rest member more : List ℕ) (base now : Attributes) (p : PlainKeyValue) → ReadSoFar given rest base now
    → rest ≡ member ++ comma ∷ more → HasNo comma member → IsMember member (p ∷ []) → IsAttributesString given [] → ⊥
member_refused given rest member more base now p s is free reads none =
    let (others, read) = string_reads_some more in
    something_in s.found others p
    (string_reads_once given [] (s.found ++ (p ∷ others)) none (s.completes (p ∷ others) (string_more rest member more (p ∷ []) others is free reads read)))

pub last_refused : (given rest : List ℕ) (base now : Attributes) (p : PlainKeyValue) → ReadSoFar given rest base now
    → HasNo comma rest → IsMember rest (p ∷ []) → IsAttributesString given [] → ⊥
last_refused given rest base now p s free reads none =
    something_in s.found [] p
    (string_reads_once given [] (s.found ++ (p ∷ [])) none (s.completes (p ∷ []) (string_last rest (p ∷ []) free reads)))
