-- Pairs and properties that are read are of the grammar; properties that are written one after another.
use Rattle.std.proofs.Common.{◌≡◌, ◌≢◌, ℕ, ◌≤◌, Bool, true, false, ◌&&◌, is_none, List, [], ◌∷◌, ◌++◌, length, Option, Some, None, refl, sym, ap, ◌∙◌, subst, arith, append-nil, append_assoc, length-append}
use Rattle.std.proofs.Math.Bool.{and-false, and-true}
use Rattle.std.specs.Borrow.{Bor}
use Rattle.std.specs.List.{AllByRecursion, cons_option, filter_map, join_with_byte}
use Rattle.std.specs.Option.{option_map, option_map_or}
use Rattle.std.proofs.lemmas.Bool.{cond_both}
use Rattle.std.proofs.lemmas.List.Elements.{filter_map-append}
use Rattle.opentelemetry.proofs.Tracestates.{both_true}
use Rattle.opentelemetry.specs.Members.{pieces_at, semicolon}
use Rattle.opentelemetry.specs.Tracestate.{trimmed}
use Rattle.otel_propagation.specs.BaggageHeader.{after_semicolon}
use Rattle.otel_propagation.specs.BaggagePieces.{next_property, unless_first}
use Rattle.otel_propagation.specs.StrictGrammar.{are_octets, is_token, IsProperty}
use Rattle.otel_propagation.specs.StrictGrammar.IsProperty.{key_alone, key_and_value}
use Rattle.otel_propagation.specs.StrictBaggage.{split_once, pair_of_cut, plain_pair, properties_onto, spelled, spelled_pair, strict_entry_of_member, strict_entry_of_parts, strict_pair, strict_paired_entry, strict_property, valued_entry, StrictPair}
use Rattle.otel_propagation.proofs.BaggagePieceLemmas.{none_yet}
use Rattle.otel_propagation.proofs.StrictBytes.{cut_bytes, length-split_once, length-trimmed}

-- a key is a token, and a value after it is of octets
abbrev pub IsKeyed : List ℕ → Option (List ℕ) → Type 0
IsKeyed key None = is_token key ≡ true
IsKeyed key (Some value) = (is_token key ≡ true) × (are_octets value ≡ true)

-- a pair that was read is such
abbrev pub IsKeyedPair : Option StrictPair → Type 0
IsKeyedPair None = Unit {0}
IsKeyedPair (Some pair) = IsKeyed pair.0 pair.1

cut_keyed : (text : List ℕ) (cut : Option (List ℕ × List ℕ)) → IsKeyedPair (pair_of_cut text cut)
cut_keyed text None = cond_both (is_token (trimmed text)) (Some (trimmed text, None)) None IsKeyedPair (λ is. is) (λ _. tt)
cut_keyed text (Some cut) =
    cond_both (is_token (trimmed cut.0) && are_octets (trimmed cut.1)) (Some (trimmed cut.0, Some (trimmed cut.1))) None IsKeyedPair
    (λ are. both_true (is_token (trimmed cut.0)) (are_octets (trimmed cut.1)) are) (λ _. tt)

pub pair_keyed : (text : List ℕ) → IsKeyedPair (strict_pair text)
unfolding strict_pair
pair_keyed text = cut_keyed text (split_once 61 text)

-- a property without optional white space
abbrev pub IsTightProperty : List ℕ → Type 0
IsTightProperty text = IsProperty text text

pub key_tight : (key : List ℕ) → is_token key ≡ true → IsTightProperty key
key_tight key is = subst (λ (text : List ℕ). IsProperty text key) (append-nil key) (key_alone key [] is refl)

pub keyed_tight : (key : List ℕ) (value : Option (List ℕ)) → IsKeyed key value → IsTightProperty (spelled key value)
keyed_tight key None is = key_tight key is
keyed_tight key (Some value) is = key_and_value key [] [] value is.0 refl refl is.1

-- the properties that are read are such
pub properties_tight : (texts : List (List ℕ)) → AllByRecursion IsTightProperty (filter_map strict_property texts)
properties_tight [] = tt
properties_tight (text ∷ more) = onto (strict_pair text) (pair_keyed text) (filter_map strict_property more) (properties_tight more)
  where
    onto : (pair : Option StrictPair) → IsKeyedPair pair → (rest : List (List ℕ)) → AllByRecursion IsTightProperty rest → AllByRecursion IsTightProperty (cons_option (option_map spelled_pair pair) rest)
    onto None is rest tight = tight
    onto (Some pair) is rest tight = (keyed_tight pair.0 pair.1 is, tight)

-- no property is empty
pub key_some : (key : List ℕ) → is_token key ≡ true → key ≢ []
key_some [] is none = absurd (cc)
key_some (b ∷ bs) is none = absurd (cc)

front_some : (key more : List ℕ) → key ≢ [] → key ++ more ≢ []
front_some [] more some none = some refl
front_some (b ∷ bs) more some none = absurd (cc)

pub says_some : (text says : List ℕ) → IsProperty text says → says ≢ []
says_some _ _ (key_alone key space is blank) = key_some key is
says_some _ _ (key_and_value key before after value is blank more octets) = front_some key (61 ∷ value) (key_some key is)

-- properties one after another are joined by semicolons
pub onto_join : (ps : List (List ℕ)) → properties_onto true ps ≡ join_with_byte semicolon ps
onto_join [] = refl
onto_join (p ∷ []) = append-nil p
onto_join (p ∷ q ∷ ps) = ap (λ l. p ++ semicolon ∷ l) (onto_join (q ∷ ps))

-- or stand after a semicolon
pub onto_after : (ps : List (List ℕ)) → AllByRecursion IsTightProperty ps → properties_onto false ps ≡ after_semicolon (join_with_byte semicolon ps)
onto_after [] tight = refl
onto_after (p ∷ ps) tight = by p (says_some p p tight.0)
  where
    by : (p : List ℕ) → p ≢ [] → properties_onto false (p ∷ ps) ≡ after_semicolon (join_with_byte semicolon (p ∷ ps))
    by [] some = absurd (some refl)
    by (b ∷ bs) some = ap after_semicolon (onto_join ((b ∷ bs) ∷ ps))

-- one more
onto_push : (first : Bool) (ps : List (List ℕ)) (p : List ℕ) → properties_onto first (ps ++ p ∷ []) ≡ properties_onto first ps ++ (unless_first (first && none_yet ps) (semicolon ∷ []) ++ p)
onto_push first [] p = ap (λ l. unless_first first (semicolon ∷ []) ++ l) (append-nil p) ∙ ap (λ (b : Bool). unless_first b (semicolon ∷ []) ++ p) (sym (and-true first))
onto_push first (q ∷ ps) p =
    let front = unless_first first (semicolon ∷ []) in
    ap (λ l. front ++ (q ++ l)) (onto_push false ps p)
    ∙ sym (append_assoc front (q ++ properties_onto false ps) (semicolon ∷ p) ∙ ap (λ l. front ++ l) (append_assoc q (properties_onto false ps) (semicolon ∷ p)))
    ∙ ap (λ (b : Bool). (front ++ (q ++ properties_onto false ps)) ++ (unless_first b (semicolon ∷ []) ++ p)) (sym (and-false first))

-- some properties were written after a text, and the next one is the first still or is not
pub record ArePushed (read : List (List ℕ)) (began is_first : Bool) (old new : List ℕ) : Type 0 where
  pub text : new ≡ old ++ properties_onto began (filter_map strict_property read)
  pub first : is_first ≡ (began && none_yet (filter_map strict_property read))

pub pushed_none : (began : Bool) (old : List ℕ) → ArePushed [] began began old old
pushed_none began old = record { text = sym (append-nil old); first = sym (and-true began) }

none_yet_push : (ts : List (List ℕ)) (t : List ℕ) → none_yet (ts ++ t ∷ []) ≡ false
none_yet_push [] t = refl
none_yet_push (s ∷ ts) t = refl

one_more : (read : List (List ℕ)) (property : List ℕ) (says : Option (List ℕ)) → strict_property property ≡ says → filter_map strict_property (read ++ property ∷ []) ≡ filter_map strict_property read ++ cons_option says []
one_more read property says is = filter_map-append strict_property read (property ∷ []) ∙ ap (λ s. filter_map strict_property read ++ cons_option s []) is

pushed_cases : (read : List (List ℕ)) (property : List ℕ) (began is_first : Bool) (says : Option (List ℕ)) (old now new : List ℕ) → strict_property property ≡ says → ArePushed read began is_first old now
    → new ≡ now ++ next_property is_first says → ArePushed (read ++ property ∷ []) began (is_first && is_none says) old new
pushed_cases read property began is_first None old now new is so_far added =
    let same : filter_map strict_property (read ++ property ∷ []) ≡ filter_map strict_property read = one_more read property None is ∙ append-nil (filter_map strict_property read) in record {
      text = added ∙ append-nil now ∙ so_far.text ∙ ap (λ ps. old ++ properties_onto began ps) (sym same);
      first = and-true is_first ∙ so_far.first ∙ ap (λ ps. began && none_yet ps) (sym same);
    }
pushed_cases read property began is_first (Some text) old now new is so_far added =
    let more = one_more read property (Some text) is in
    let texts = filter_map strict_property read in record {
      text =
          added ∙ (λ i. so_far.text i ++ (unless_first (so_far.first i) (semicolon ∷ []) ++ text))
          ∙ append_assoc old (properties_onto began texts) (unless_first (began && none_yet texts) (semicolon ∷ []) ++ text)
          ∙ ap (λ l. old ++ l) (sym (onto_push began texts text)) ∙ ap (λ ps. old ++ properties_onto began ps) (sym more);
      first = and-false is_first ∙ sym (and-false began) ∙ ap (λ (b : Bool). began && b) (sym (none_yet_push texts text) ∙ ap none_yet (sym more));
    }

-- the same of one property more
pub pushed_more : (read : List (List ℕ)) (property : List ℕ) (began is_first still : Bool) (old now new : List ℕ) → ArePushed read began is_first old now
    → new ≡ now ++ next_property is_first (strict_property property) → still ≡ (is_first && is_none (strict_property property)) → ArePushed (read ++ property ∷ []) began still old new
pushed_more read property began is_first still old now new so_far added is =
    subst (λ (b : Bool). ArePushed (read ++ property ∷ []) began b old new) (sym is) (pushed_cases read property began is_first (strict_property property) old now new refl so_far added)

-- a pair is no longer than the text that says it

cut_within : (text : List ℕ) (cut : Option (List ℕ × List ℕ)) → cut_bytes cut ≤ length text → option_map_or (λ p. length (spelled_pair p)) (pair_of_cut text cut) 0 ≤ length text
cut_within text None less =
    let trim = length-trimmed text in
    cond_both (is_token (trimmed text)) (Some (trimmed text, None)) None (λ pair. option_map_or (λ p. length (spelled_pair p)) pair 0 ≤ length text) (λ _. omega arith) (λ _. omega arith)
cut_within text (Some cut) less =
    let key = length-trimmed cut.0 in
    let value = length-trimmed cut.1 in
    let all = length-append (trimmed cut.0) (61 ∷ trimmed cut.1) in
    cond_both (is_token (trimmed cut.0) && are_octets (trimmed cut.1)) (Some (trimmed cut.0, Some (trimmed cut.1))) None
    (λ pair. option_map_or (λ p. length (spelled_pair p)) pair 0 ≤ length text) (λ _. omega arith) (λ _. omega arith)

pub pair_within : (text : List ℕ) (pair : StrictPair) → strict_pair text ≡ Some pair → length (spelled_pair pair) ≤ length text
unfolding strict_pair
pair_within text pair is =
    subst (λ (p : Option StrictPair). option_map_or (λ q. length (spelled_pair q)) p 0 ≤ length text) is (cut_within text (split_once 61 text) (length-split_once 61 text))

-- what a member says is what its pair says, with its properties
pub member_paired : (member pair : List ℕ) (properties : List (List ℕ)) (read : Option (Bor (List ℕ) × Option (Bor (List ℕ)))) → pieces_at semicolon member ≡ pair ∷ properties → option_map plain_pair read ≡ strict_pair pair
    → strict_paired_entry (option_map plain_pair read) properties ≡ strict_entry_of_member member
unfolding strict_entry_of_member
member_paired member pair properties read cut is = ap (λ p. strict_paired_entry p properties) is ∙ ap strict_entry_of_parts (sym cut)

pub member_valued : (member pair : List ℕ) (properties : List (List ℕ)) (key : Bor (List ℕ)) (value : Option (Bor (List ℕ))) (read : Option (Bor (List ℕ) × Option (Bor (List ℕ)))) → pieces_at semicolon member ≡ pair ∷ properties
    → option_map plain_pair read ≡ strict_pair pair → read ≡ Some (key, value) → valued_entry key.now (option_map (λ v. v.now) value) properties ≡ strict_entry_of_member member
member_valued member pair properties key value read cut is some =
    sym (ap (λ (r : Option (Bor (List ℕ) × Option (Bor (List ℕ)))). strict_paired_entry (option_map plain_pair r) properties) some) ∙ member_paired member pair properties read cut is
