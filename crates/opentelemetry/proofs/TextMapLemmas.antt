-- A map from names to texts, seen as a finite map of bytes.
use Rattle.std.proofs.Common.{◌≡◌, ℕ, Bool, true, false, cond, List, [], ◌∷◌, ◌++◌, map, length, string_bytes, String, Option, Some, None, IsSome, ◌⊎◌, inl, inr, refl, sym, ◌∙◌, ap, subst, arith, All, append-nil}
use Rattle.std.specs.Option.{option_map}
use Rattle.std.specs.Ordering.{nat_cmp, is_eq, match_ordering}
use Rattle.std.specs.declared.cmp.Ordering.{Ordering}
use Rattle.std.specs.declared.cmp.Ordering.TheVariants.{Less, Equal, Greater}
use Rattle.std.specs.Cmp.{eq_by_cmp_equiv}
use Rattle.std.specs.Cmp.Lexicographic.{slice_cmp, nat_list_cmp_total}
use Rattle.std.specs.FinMap as fin
use Rattle.std.specs.FinMap.{find, put, from_entries, same_map, get-from_entries, get-insert, entries-insert, len-empty, len-entries, slice_cmp-IsAntisymmetric, nat_cmp-IsAntisymmetric}
use Rattle.std.specs.BTreeMap.{BTreeMap, is_at, get_by_text, UpdatesBy, insert_entry, get}
use Rattle.std.specs.Map.{lookup, keys_of}
use Rattle.std.specs.List.Sorted.{IsStrictlySortedBy}
use Rattle.std.specs.List.{AllByRecursion, AllZip}
use Rattle.std.specs.String.{string_cmp}
use Rattle.std.specs.Str.{bytes_eq, str_to_ascii_lowercase}
use Rattle.std.proofs.lemmas.Map.Text.{btree_map_updates_text, is_eq-slice_cmp}
use Rattle.std.proofs.lemmas.Str.Ascii.{lowercase-lowercase}
use Rattle.std.proofs.lemmas.List.Elements.{All-from_recursion, recursion_from_All}
use Rattle.opentelemetry.specs.Carrier.{SetsText, HasName}
use Rattle.opentelemetry.specs.TextMap.{TextMap, text_entries, text_map, texts_of, IsLowerName, AllLowerNames, first_text}

option_map-cond : {A B : Type 0} (f : A → B) (b : Bool) (x : A) (o : Option A) → option_map f (cond b (Some x) o) ≡ cond b (Some (f x)) (option_map f o)
option_map-cond f true x o = refl
option_map-cond f false x o = refl

find-text_entries : {Y Z : Type 0} (es : List (String Y × String Z)) (q : List ℕ) → find (slice_cmp nat_cmp) q (text_entries es) ≡ option_map string_bytes (lookup (is_at (λ k. slice_cmp nat_cmp q (string_bytes k))) es)
find-text_entries [] q = refl
find-text_entries (e ∷ es) q =
    ap (cond (is_at (slice_cmp nat_cmp q) (string_bytes e.0)) (Some (string_bytes e.1))) (find-text_entries es q)
    ∙ sym (option_map-cond string_bytes (is_at (slice_cmp nat_cmp q) (string_bytes e.0)) e.1 _)

-- what it has at a name
pub get-text_map : {Y Z : Type 0} (m : BTreeMap (String Y) (String Z)) (q : List ℕ) → fin.get (text_map m) q ≡ option_map string_bytes (get_by_text m q)
get-text_map m q = get-from_entries nat_list_cmp_total (text_entries m.entries) q ∙ find-text_entries m.entries q

-- one name was given a text
pub text_map-insert : {Y Z : Type 0} (m n : BTreeMap (String Y) (String Z)) (s : List ℕ) (v : String Z) → UpdatesBy string_cmp (λ k. slice_cmp nat_cmp s (string_bytes k)) m n (Some v) → text_map n ≡ fin.insert (text_map m) s (string_bytes v)
text_map-insert m n s v h = same_map nat_list_cmp_total (slice_cmp-IsAntisymmetric nat_cmp-IsAntisymmetric) _ _ (λ q.
    get-text_map n q ∙ ap (option_map string_bytes) (btree_map_updates_text s m n (Some v) h q)
    ∙ option_map-cond string_bytes (bytes_eq s q) v (get_by_text m q)
    ∙ ap (λ b. cond b (Some (string_bytes v)) (option_map string_bytes (get_by_text m q))) (sym (is_eq-slice_cmp s q) ∙ (eq_by_cmp_equiv nat_list_cmp_total).symm s q)
    ∙ sym (get-insert nat_list_cmp_total (text_map m) s (string_bytes v) q ∙ ap (cond (is_at (slice_cmp nat_cmp q) s) (Some (string_bytes v))) (get-text_map m q)))

-- nothing changed
pub same_text_map : {Y Z : Type 0} (m n : BTreeMap (String Y) (String Z)) → n.entries ≡ m.entries → text_map n ≡ text_map m
same_text_map {Y} {Z} m n h = ap (λ (es : List (String Y × String Z)). from_entries {R = slice_cmp nat_cmp} (text_entries es)) h

-- a name in lower case is in lower case
pub IsLowerName-lowercase : (name : List ℕ) → IsLowerName (str_to_ascii_lowercase name)
IsLowerName-lowercase [] = refl
IsLowerName-lowercase (c ∷ cs) = let first = lowercase-lowercase c in let rest = IsLowerName-lowercase cs in cc

-- a name in lower case joins names in lower case
pub AllLowerNames-insert_entry : {Y X : Type 0} (es : List (String Y × X)) (k : String Y) (v : X) → IsLowerName (string_bytes k) → AllLowerNames es → AllLowerNames (insert_entry string_cmp es k v)
AllLowerNames-insert_entry [] k v low all = (low, tt)
AllLowerNames-insert_entry (e ∷ es) k v low all = elim (string_cmp k e.0) as (λ r. AllLowerNames (match_ordering r ((k, v) ∷ e ∷ es) ((e.0, v) ∷ es) (e ∷ insert_entry string_cmp es k v))) [
  | Less ↦ (low, all)
  | Equal ↦ all
  | Greater ↦ (all.0, AllLowerNames-insert_entry es k v low all.1)
]

-- names that stay in lower case, whatever texts they have
pub AllLowerNames-same_keys : {Y X : Type 0} (es fs : List (String Y × X)) → keys_of fs ≡ keys_of es → AllLowerNames es → AllLowerNames fs
AllLowerNames-same_keys [] [] same all = all
AllLowerNames-same_keys [] (f ∷ fs) same all = cc
AllLowerNames-same_keys (e ∷ es) [] same all = tt
AllLowerNames-same_keys (e ∷ es) (f ∷ fs) same all =
    let first : f.0 ≡ e.0 = cc in
    let rest : keys_of fs ≡ keys_of es = cc in
    (subst (λ k. IsLowerName (string_bytes k)) (sym first) all.0, AllLowerNames-same_keys es fs rest all.1)

-- what compares as equal is Equal
pub equal_from : (r : Ordering) → is_eq r ≡ true → r ≡ Equal
equal_from Less h = cc
equal_from Equal h = refl
equal_from Greater h = cc

false_unless : (b : Bool) → (b ≡ true → ⊥) → b ≡ false
false_unless true h = absurd (h refl)
false_unless false h = refl

found_first : (q name : List ℕ) (b : Bool) → is_at (slice_cmp nat_cmp q) name ≡ b → IsLowerName name → (b ≡ false → IsLowerName q) → IsLowerName q
found_first q name true at low rest = subst IsLowerName (sym (slice_cmp-IsAntisymmetric nat_cmp-IsAntisymmetric q name (equal_from _ at))) low
found_first q name false at low rest = rest refl

-- what is found among names in lower case is in lower case
pub IsLowerName-found : {Y X : Type 0} (es : List (String Y × X)) (q : List ℕ) → AllLowerNames es → IsSome (lookup (is_at (λ k. slice_cmp nat_cmp q (string_bytes k))) es) → IsLowerName q
IsLowerName-found [] q low found = cc
IsLowerName-found (e ∷ es) q low found = found_first q (string_bytes e.0) (is_at (slice_cmp nat_cmp q) (string_bytes e.0)) refl low.0
    (λ apart. IsLowerName-found es q low.1 (subst (λ b. IsSome (cond b (Some e.1) (lookup (is_at (λ k. slice_cmp nat_cmp q (string_bytes k))) es))) apart found))

some_or_none : {A : Type 0} (o : Option A) → o ≡ None → IsSome o → ⊥
some_or_none None none some = cc
some_or_none (Some x) none some = cc

-- a name in lower case that is not found has no text
pub no_text : {Y Z : Type 0} (m : BTreeMap (String Y) (String Z)) (carrier : TextMap) (name : List ℕ) → text_map m ≡ carrier → IsLowerName name → get_by_text m name ≡ None → IsSome (texts_of carrier name) → ⊥
no_text m carrier name seen low absent there =
    some_or_none (texts_of carrier name)
    (ap (λ (c : TextMap). texts_of c name) (sym seen) ∙ ap (fin.get (text_map m)) low ∙ get-text_map m name ∙ ap (option_map string_bytes) absent)
    there

-- what a carrier has after a text was put under a name in lower case
pub texts_of-insert : (m n : TextMap) (key text : List ℕ) → n ≡ fin.insert m (str_to_ascii_lowercase key) text → SetsText (texts_of m) (texts_of n) key text
texts_of-insert m n key text h = record {
  set = ap (λ (c : TextMap). texts_of c key) h ∙ get-insert nat_list_cmp_total m (str_to_ascii_lowercase key) text (str_to_ascii_lowercase key)
      ∙ ap (λ b. cond b (Some text) (texts_of m key)) ((eq_by_cmp_equiv nat_list_cmp_total).refl (str_to_ascii_lowercase key));
  others = λ other apart. ap (λ (c : TextMap). texts_of c other) h ∙ get-insert nat_list_cmp_total m (str_to_ascii_lowercase key) text (str_to_ascii_lowercase other)
      ∙ ap (λ b. cond b (Some text) (texts_of m other)) (false_unless _ (λ e. apart (slice_cmp-IsAntisymmetric nat_cmp-IsAntisymmetric _ _ (equal_from _ e))));
}

-- a scan that ignores case finds what the map has under the name in lower case
pub first_text-find : {Y Z : Type 0} (name : List ℕ) (es : List (String Y × String Z)) → AllLowerNames es → first_text name es ≡ find (slice_cmp nat_cmp) (str_to_ascii_lowercase name) (text_entries es)
first_text-find name [] all = refl
first_text-find name (e ∷ es) all =
    ap (λ b. cond b (Some (string_bytes e.1)) (first_text name es))
    (ap (λ low. bytes_eq low (str_to_ascii_lowercase name)) all.0
    ∙ sym (is_eq-slice_cmp (string_bytes e.0) (str_to_ascii_lowercase name))
    ∙ (eq_by_cmp_equiv nat_list_cmp_total).symm (string_bytes e.0) (str_to_ascii_lowercase name))
    ∙ ap (cond (is_at (slice_cmp nat_cmp (str_to_ascii_lowercase name)) (string_bytes e.0)) (Some (string_bytes e.1))) (first_text-find name es all.1)

put_first : (k v : List ℕ) (es : List (List ℕ × List ℕ)) → AllByRecursion (λ y. slice_cmp nat_cmp k y ≡ Less) (keys_of es) → put (slice_cmp nat_cmp) k v es ≡ (k, v) ∷ es
put_first k v [] h = refl
put_first k v (e ∷ es) h = rw h.0 refl

below_texts : {Y Z : Type 0} (k : String Y) (es : List (String Y × String Z)) → AllByRecursion (λ y. string_cmp k y ≡ Less) (keys_of es) → AllByRecursion (λ y. slice_cmp nat_cmp (string_bytes k) y ≡ Less) (keys_of (text_entries es))
below_texts k [] h = tt
below_texts k (e ∷ es) h = (h.0, below_texts k es h.1)

no_items : {X : Type 0} (xs : List X) → length xs ≡ 0 → xs ≡ []
no_items [] h = refl
no_items (x ∷ xs) h = absurd (omega arith)

no_entries : fin.entries (fin.empty {K = List ℕ} {X = List ℕ} {R = slice_cmp nat_cmp}) ≡ []
no_entries = no_items _ (sym (len-entries fin.empty) ∙ len-empty (slice_cmp nat_cmp) (List ℕ))

-- an empty carrier has no names
pub no_names : (m : TextMap) → m ≡ fin.empty → fin.keys m ≡ []
no_names m none = ap (λ (c : TextMap). fin.keys c) none ∙ ap (map (λ e. e.0)) no_entries

entries-texts : {Y Z : Type 0} (es : List (String Y × String Z)) → IsStrictlySortedBy string_cmp (keys_of es) → fin.entries (from_entries {R = slice_cmp nat_cmp} (text_entries es)) ≡ text_entries es
unfolding IsStrictlySortedBy
entries-texts [] h = no_entries
entries-texts (e ∷ es) h =
    entries-insert nat_list_cmp_total (from_entries (text_entries es)) (string_bytes e.0) (string_bytes e.1)
    ∙ ap (put (slice_cmp nat_cmp) (string_bytes e.0) (string_bytes e.1)) (entries-texts es h.1)
    ∙ put_first (string_bytes e.0) (string_bytes e.1) (text_entries es) (below_texts e.0 es h.0)

-- the keys of the map of bytes are the bytes of the keys, in order
pub keys-text_map : {Y Z : Type 0} (m : BTreeMap (String Y) (String Z)) → IsStrictlySortedBy string_cmp (keys_of m.entries) → fin.keys (text_map m) ≡ map (λ name. string_bytes name) (keys_of m.entries)
keys-text_map m h = ap (map (λ e. e.0)) (entries-texts m.entries h) ∙ names_of_texts m.entries
  where
    names_of_texts : {Y Z : Type 0} (es : List (String Y × String Z)) → map (λ e. e.0) (text_entries es) ≡ map (λ name. string_bytes name) (keys_of es)
    names_of_texts [] = refl
    names_of_texts (e ∷ es) = ap (λ rest. string_bytes e.0 ∷ rest) (names_of_texts es)

-- a map without names is empty
pub no_names_no_texts : {Y Z : Type 0} (m : BTreeMap (String Y) (String Z)) → IsStrictlySortedBy string_cmp (keys_of m.entries) → fin.keys (text_map m) ≡ [] → length m.entries ≡ 0
no_names_no_texts m ordered none = empty m.entries (sym (keys-text_map m ordered) ∙ none)
  where
    empty : {Y Z : Type 0} (es : List (String Y × String Z)) → map (λ name. string_bytes name) (keys_of es) ≡ [] → length es ≡ 0
    empty [] h = refl
    empty (e ∷ es) h = absurd cc

has_text : {Y Z : Type 0} (m : BTreeMap (String Y) (String Z)) (k : String Y) → IsLowerName (string_bytes k) → IsSome (get string_cmp m k) → IsSome (texts_of (text_map m) (string_bytes k))
has_text m k low there =
    let P : Option (List ℕ) → Type 0 = λ o. IsSome o in
    subst P (sym (ap (fin.get (text_map m)) low ∙ get-text_map m (string_bytes k))) (some_mapped string_bytes (get_by_text m (string_bytes k)) there)
  where
    some_mapped : {A X : Type 0} (f : A → X) (o : Option A) → IsSome o → IsSome (option_map f o)
    some_mapped f None h = h
    some_mapped f (Some x) h = h

all_have_text : {Y Z : Type 0} (m : BTreeMap (String Y) (String Z)) (es : List (String Y × String Z)) → AllLowerNames es → AllByRecursion (λ k. IsSome (get string_cmp m k)) (keys_of es) → AllByRecursion (λ name. IsSome (texts_of (text_map m) name)) (map (λ name. string_bytes name) (keys_of es))
all_have_text m [] low h = tt
all_have_text m (e ∷ es) low h = (has_text m e.0 low.0 h.0, all_have_text m es low.1 h.1)

-- each key of the map of bytes has a text
pub keys_have_text : {Y Z A : Type 0} (m : BTreeMap (String Y) (String Z)) (f : A → List ℕ) (xs : List A) → AllLowerNames m.entries → All (λ k. IsSome (get string_cmp m k)) (keys_of m.entries) → map f xs ≡ map (λ name. string_bytes name) (keys_of m.entries) → All (λ x. IsSome (texts_of (text_map m) (f x))) xs
keys_have_text m f xs low there same =
    let all = all_have_text m m.entries low (recursion_from_All _ _ there) in
    let P : List (List ℕ) → Type 0 = AllByRecursion (λ name. IsSome (texts_of (text_map m) name)) in
    All-from_recursion _ _ (back (λ name. IsSome (texts_of (text_map m) name)) f xs (subst P (sym same) all))
  where
    back : {A : Type 0} (Q : List ℕ → Type 0) (f : A → List ℕ) (xs : List A) → AllByRecursion Q (map f xs) → AllByRecursion (λ x. Q (f x)) xs
    back Q f [] h = tt
    back Q f (x ∷ xs) h = (h.0, back Q f xs h.1)

-- a scan that ignores case finds what a carrier has
pub first_text-texts_of : {Y Z : Type 0} (m : BTreeMap (String Y) (String Z)) (name : List ℕ) → AllLowerNames m.entries → first_text name m.entries ≡ texts_of (text_map m) name
first_text-texts_of m name low = first_text-find name m.entries low ∙ sym (get-from_entries nat_list_cmp_total (text_entries m.entries) (str_to_ascii_lowercase name))

-- nothing is left
pub all_gathered : {A X : Type 0} (f : A → X) (xs ys : List X) (left : List A) → left ≡ [] → xs ++ map f left ≡ ys → xs ≡ ys
all_gathered f xs ys left none same = sym (append-nil xs) ∙ ap (λ rest. xs ++ map f rest) (sym none) ∙ same

-- what is gathered of something is not nothing
pub something_left : {A X : Type 0} (f : A → X) (xs : List X) (left more : List A) (x : A) → left ≡ x ∷ more → xs ++ map f left ≡ [] → ⊥
something_left f xs [] more x is none = absurd cc
something_left f [] (y ∷ left) more x is none = absurd cc
something_left f (z ∷ xs) (y ∷ left) more x is none = absurd cc

copied_texts : {Y Z : Type 0} (es fs : List (String Y × String Z)) → AllZip (λ p q. (string_bytes q.0 ≡ string_bytes p.0) × (string_bytes q.1 ≡ string_bytes p.1)) es fs → text_entries fs ≡ text_entries es
copied_texts [] [] h = refl
copied_texts [] (f ∷ fs) h = absurd h
copied_texts (e ∷ es) [] h = absurd h
copied_texts (e ∷ es) (f ∷ fs) h = let name = h.0.0 in let text = h.0.1 in let others = copied_texts es fs h.1 in cc

-- maps whose entries are clones of each other have the same bytes
pub copied_text_map : {Y Z : Type 0} (m n : BTreeMap (String Y) (String Z)) → AllZip (λ p q. (string_bytes q.0 ≡ string_bytes p.0) × (string_bytes q.1 ≡ string_bytes p.1)) m.entries n.entries → text_map n ≡ text_map m
copied_text_map m n h = ap (λ (es : List (List ℕ × List ℕ)). from_entries {R = slice_cmp nat_cmp} es) (copied_texts m.entries n.entries h)

-- clones of names in lower case are in lower case
pub AllLowerNames-copied : {Y Z : Type 0} (es fs : List (String Y × String Z)) → AllZip (λ p q. (string_bytes q.0 ≡ string_bytes p.0) × (string_bytes q.1 ≡ string_bytes p.1)) es fs → AllLowerNames es → AllLowerNames fs
AllLowerNames-copied [] [] h low = tt
AllLowerNames-copied [] (f ∷ fs) h low = absurd h
AllLowerNames-copied (e ∷ es) [] h low = absurd h
AllLowerNames-copied (e ∷ es) (f ∷ fs) h low = (subst IsLowerName (sym h.0.0) low.0, AllLowerNames-copied es fs h.1 low.1)

found_name : (name : List ℕ) (es : List (List ℕ × List ℕ)) → IsSome (find (slice_cmp nat_cmp) (str_to_ascii_lowercase name) es) → HasName name (map (λ e. e.0) es)
found_name name [] h = absurd cc
found_name name (e ∷ es) h = by (slice_cmp nat_cmp (str_to_ascii_lowercase name) e.0) refl h (found_name name es)
  where
    by : (r : Ordering) → slice_cmp nat_cmp (str_to_ascii_lowercase name) e.0 ≡ r → IsSome (cond (is_eq r) (Some e.1) (find (slice_cmp nat_cmp) (str_to_ascii_lowercase name) es))
        → (IsSome (find (slice_cmp nat_cmp) (str_to_ascii_lowercase name) es) → HasName name (map (λ x. x.0) es))
        → (str_to_ascii_lowercase e.0 ≡ str_to_ascii_lowercase name) ⊎ HasName name (map (λ x. x.0) es)
    by Less is there rest = inr (rest there)
    by Equal is there rest = inl (ap str_to_ascii_lowercase (sym (slice_cmp-IsAntisymmetric nat_cmp-IsAntisymmetric _ _ is)) ∙ IsLowerName-lowercase name)
    by Greater is there rest = inr (rest there)

-- a name that a carrier reads is one of its keys
pub keys_complete : (m : TextMap) (name : List ℕ) → IsSome (texts_of m name) → HasName name (fin.keys m)
keys_complete m name h =
    let P : Option (List ℕ) → Type 0 = λ o. IsSome o in
    found_name name (fin.entries m) (subst P (fin.get-entries m (str_to_ascii_lowercase name)) h)
