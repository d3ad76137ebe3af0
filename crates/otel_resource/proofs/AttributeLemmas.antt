-- Finite maps of attributes, by what they answer at a key.
use Rattle.std.proofs.Common.{◌≡◌, ◌≢◌, AllPairs, ℕ, Bool, true, false, cond, T, ◌&&◌, List, [], ◌∷◌, ◌++◌, map, reverse, length, Option, Some, None, refl, sym, ap, subst, ◌∙◌, arith}
use Rattle.std.proofs.lemmas.List.{map-append, length-map, reverse-append}
use Rattle.std.proofs.lemmas.Map.Keys.{IsDistinct-from_sorted}
use Rattle.std.proofs.lemmas.Map.Made.{AllPairs-from_IsDistinct}
use Rattle.std.specs.Bool.{Decides}
use Rattle.std.specs.Ordering.{nat_cmp, is_eq, is_lt, eq_by_cmp}
use Rattle.std.specs.declared.cmp.Ordering.{Ordering}
use Rattle.std.specs.declared.cmp.Ordering.TheVariants.{Less, Equal, Greater}
use Rattle.std.specs.Borrow.{Bor}
use Rattle.std.specs.Option.{option_map, option_or, option_copied}
use Rattle.std.specs.Cmp.{eq_by_cmp_equiv}
use Rattle.std.specs.Cmp.Lexicographic.{slice_cmp, nat_list_cmp_total}
use Rattle.std.specs.List.{AllByRecursion, AllZip}
use Rattle.std.specs.List.Sorted.{IsStrictlySortedBy}
use Rattle.std.specs.Map.{lookup, keys_of}
use Rattle.std.specs.FinMap as fin
use Rattle.std.specs.FinMap.{find, is_sorted, from_entries, from_sorted, same_map, get-from_entries, get-insert, get-empty, get-entries, len-entries, get-from_sorted, entries-from_sorted, entries_sorted, slice_cmp-IsAntisymmetric, nat_cmp-IsAntisymmetric}
use Rattle.std.specs.FinMap.Entries.{below_all}
use Rattle.std.specs.BTreeMap as tree
use Rattle.std.specs.BTreeMap.{BTreeMap, is_at}
use Rattle.opentelemetry.specs.Plain.{PlainValue, PlainKeyValue}
use Rattle.opentelemetry.specs.PlainValues.{plain_value}
use Rattle.opentelemetry.specs.Same.{same_text_decides}
use Rattle.opentelemetry.specs.declared.common.Value.{Value}
use Rattle.otel_resource.specs.Resource.{Attributes, PlainResource, empty_resource, non_empty, union, merged_schema, merge, with_pairs, attributes_of, of_attributes, all_attributes, by_key}

both_true : (a b : Bool) → T a → T b → T (a && b)
both_true true b p q = q
both_true false b p q = p

first_true : (a b : Bool) → T (a && b) → T a
first_true true b p = tt
first_true false b p = p

second_true : (a b : Bool) → T (a && b) → T b
second_true true b p = p
second_true false b p = absurd p

-- the order of keys
abbrev pub key_cmp : List ℕ → List ℕ → Ordering
key_cmp = slice_cmp nat_cmp

-- maps that answer alike are equal
pub attributes_by_name : (m n : Attributes) → ((q : List ℕ) → fin.get m q ≡ fin.get n q) → m ≡ n
attributes_by_name m n is = same_map nat_list_cmp_total (slice_cmp-IsAntisymmetric nat_cmp-IsAntisymmetric) m n is

or_cond : {X : Type 0} (b : Bool) (v : X) (o p : Option X) → option_or (cond b (Some v) o) p ≡ cond b (Some v) (option_or o p)
or_cond true v o p = refl
or_cond false v o p = refl

pub or_none : {X : Type 0} (o : Option X) → option_or o None ≡ o
or_none None = refl
or_none (Some x) = refl

pub or_assoc : {X : Type 0} (o p q : Option X) → option_or (option_or o p) q ≡ option_or o (option_or p q)
or_assoc None p q = refl
or_assoc (Some x) p q = refl

pub or_same : {X : Type 0} (o : Option X) → option_or o o ≡ o
or_same None = refl
or_same (Some x) = refl

map_cond : {X Y : Type 0} (f : X → Y) (b : Bool) (v : X) (o : Option X) → option_map f (cond b (Some v) o) ≡ cond b (Some (f v)) (option_map f o)
map_cond f true v o = refl
map_cond f false v o = refl

find_append : {X : Type 0} (q : List ℕ) (xs ys : List (List ℕ × X)) → find key_cmp q (xs ++ ys) ≡ option_or (find key_cmp q xs) (find key_cmp q ys)
find_append q [] ys = refl
find_append q (x ∷ xs) ys =
    ap (cond (eq_by_cmp key_cmp q x.0) (Some x.1)) (find_append q xs ys) ∙ sym (or_cond (eq_by_cmp key_cmp q x.0) x.1 (find key_cmp q xs) (find key_cmp q ys))

-- a union answers as the right map, and else as the left one
pub get-union : (left right : Attributes) (q : List ℕ) → fin.get (union left right) q ≡ option_or (fin.get right q) (fin.get left q)
get-union left right q =
    get-from_entries nat_list_cmp_total (fin.entries right ++ fin.entries left) q ∙ find_append q (fin.entries right) (fin.entries left)
    ∙ ap (λ o. option_or o (find key_cmp q (fin.entries left))) (sym (get-entries right q)) ∙ ap (option_or (fin.get right q)) (sym (get-entries left q))

pub union-empty : (m : Attributes) → union m fin.empty ≡ m
union-empty m = attributes_by_name _ _ (λ q. get-union m fin.empty q ∙ ap (λ o. option_or o (fin.get m q)) (get-empty key_cmp q))

pub union-empty_left : (m : Attributes) → union fin.empty m ≡ m
union-empty_left m = attributes_by_name _ _ (λ q. get-union fin.empty m q ∙ ap (option_or (fin.get m q)) (get-empty key_cmp q) ∙ or_none (fin.get m q))

pub union_assoc : (a b c : Attributes) → union (union a b) c ≡ union a (union b c)
union_assoc a b c = attributes_by_name _ _ (λ q.
    get-union (union a b) c q ∙ ap (option_or (fin.get c q)) (get-union a b q) ∙ sym (or_assoc (fin.get c q) (fin.get b q) (fin.get a q))
    ∙ ap (λ o. option_or o (fin.get a q)) (sym (get-union b c q)) ∙ sym (get-union a (union b c) q))

pub union_same : (m : Attributes) → union m m ≡ m
union_same m = attributes_by_name _ _ (λ q. get-union m m q ∙ or_same (fin.get m q))

-- one more pair in a union
pub union-insert : (m n : Attributes) (k : List ℕ) (v : PlainValue) → union m (fin.insert n k v) ≡ fin.insert (union m n) k v
union-insert m n k v = attributes_by_name _ _ (λ q.
    get-union m (fin.insert n k v) q ∙ ap (λ o. option_or o (fin.get m q)) (get-insert nat_list_cmp_total n k v q)
    ∙ or_cond (eq_by_cmp key_cmp q k) v (fin.get n q) (fin.get m q)
    ∙ ap (cond (eq_by_cmp key_cmp q k) (Some v)) (sym (get-union m n q)) ∙ sym (get-insert nat_list_cmp_total (union m n) k v q))

-- one more pair at the end of a list
pub attributes_of-push : (pairs : List PlainKeyValue) (a : PlainKeyValue) → attributes_of (pairs ++ a ∷ []) ≡ fin.insert (attributes_of pairs) a.key a.value
attributes_of-push pairs a =
    let pair : PlainKeyValue → List ℕ × PlainValue = λ b. (b.key, b.value) in
    ap (λ (es : List (List ℕ × PlainValue)). from_entries {R = key_cmp} es) (ap reverse (map-append pair pairs (a ∷ [])) ∙ reverse-append (map pair pairs) (pair a ∷ []))

-- one list after another
pub attributes_of-append : (xs ys : List PlainKeyValue) → attributes_of (xs ++ ys) ≡ union (attributes_of xs) (attributes_of ys)
attributes_of-append xs ys =
    let pair : PlainKeyValue → List ℕ × PlainValue = λ b. (b.key, b.value) in
    let left : List (List ℕ × PlainValue) = reverse (map pair xs) in
    let right : List (List ℕ × PlainValue) = reverse (map pair ys) in
    ap (λ (es : List (List ℕ × PlainValue)). from_entries {R = key_cmp} es)
    (ap reverse (map-append pair xs ys) ∙ reverse-append (map pair xs) (map pair ys))
    ∙ attributes_by_name _ _ (λ q. get-from_entries nat_list_cmp_total (right ++ left) q ∙ find_append q right left
    ∙ (λ i. option_or (sym (get-from_entries nat_list_cmp_total right q) i) (sym (get-from_entries nat_list_cmp_total left q) i))
    ∙ sym (get-union (attributes_of xs) (attributes_of ys) q))

-- one more resource at the end
pub all_attributes-push : (rs : List PlainResource) (r : PlainResource) → all_attributes (rs ++ r ∷ []) ≡ union (all_attributes rs) r.attributes
all_attributes-push [] r = union-empty r.attributes ∙ sym (union-empty_left r.attributes)
all_attributes-push (s ∷ rs) r = ap (union s.attributes) (all_attributes-push rs r) ∙ sym (union_assoc s.attributes (all_attributes rs) r.attributes)

with_plain_values : List (List ℕ × Value) → List (List ℕ × PlainValue)
with_plain_values es = map (λ e. (e.0, plain_value e.1)) es

find_plain : (es : List (List ℕ × Value)) (q : List ℕ) → find key_cmp q (with_plain_values es) ≡ option_map plain_value (lookup (is_at (key_cmp q)) es)
unfolding with_plain_values
find_plain [] q = refl
find_plain (e ∷ es) q = ap (cond (is_at (key_cmp q) e.0) (Some (plain_value e.1))) (find_plain es q) ∙ sym (map_cond plain_value (is_at (key_cmp q) e.0) e.1 (lookup (is_at (key_cmp q)) es))

-- what the map has at a key
pub get-by_key : (m : BTreeMap (List ℕ) Value) (q : List ℕ) → fin.get (by_key m) q ≡ option_map plain_value (tree.get key_cmp m q)
unfolding with_plain_values
get-by_key m q = get-from_entries nat_list_cmp_total (with_plain_values m.entries) q ∙ find_plain m.entries q

-- one key was given a value
pub by_key-insert : (m n : BTreeMap (List ℕ) Value) (k : List ℕ) (v : Value) → tree.Updates key_cmp m n k (Some v) → by_key n ≡ fin.insert (by_key m) k (plain_value v)
by_key-insert m n k v h = attributes_by_name _ _ (λ q.
    get-by_key n q ∙ ap (option_map plain_value) (h.0 q)
    ∙ map_cond plain_value (is_at (key_cmp k) q) v (tree.get key_cmp m q)
    ∙ ap (λ b. cond b (Some (plain_value v)) (option_map plain_value (tree.get key_cmp m q))) ((eq_by_cmp_equiv nat_list_cmp_total).symm k q)
    ∙ ap (cond (eq_by_cmp key_cmp q k) (Some (plain_value v))) (sym (get-by_key m q))
    ∙ sym (get-insert nat_list_cmp_total (by_key m) k (plain_value v) q))

pub by_key-same : (m n : BTreeMap (List ℕ) Value) → n.entries ≡ m.entries → by_key n ≡ by_key m
by_key-same m n h = ap (λ (es : List (List ℕ × Value)). from_entries {R = key_cmp} (map (λ e. (e.0, plain_value e.1)) es)) h

pub by_key-empty : (m : BTreeMap (List ℕ) Value) → m.entries ≡ [] → by_key m ≡ fin.empty
by_key-empty m h = ap (λ (es : List (List ℕ × Value)). from_entries {R = key_cmp} (map (λ e. (e.0, plain_value e.1)) es)) h

below_plain : (k : List ℕ) (es : List (List ℕ × Value)) → AllByRecursion (λ y. key_cmp k y ≡ Less) (keys_of es) → T (below_all key_cmp k (with_plain_values es))
unfolding with_plain_values
below_plain k [] h = tt
below_plain k (e ∷ es) h = subst (λ r. T (is_lt r && below_all key_cmp k (with_plain_values es))) (sym h.0) (below_plain k es h.1)

sorted_plain : (es : List (List ℕ × Value)) → IsStrictlySortedBy key_cmp (keys_of es) → T (is_sorted key_cmp (with_plain_values es))
unfolding with_plain_values IsStrictlySortedBy
sorted_plain [] h = tt
sorted_plain (e ∷ es) h = both_true _ _ (below_plain e.0 es h.0) (sorted_plain es h.1)

-- the entries of a map stay in their order
pub entries-by_key : (m : BTreeMap (List ℕ) Value) → tree.IsOrdered key_cmp m → fin.entries (by_key m) ≡ map (λ e. (e.0, plain_value e.1)) m.entries
unfolding with_plain_values
entries-by_key m ordered =
    let sorted = sorted_plain m.entries ordered in
    let same : by_key m ≡ from_sorted {R = key_cmp} (with_plain_values m.entries) =
    attributes_by_name _ _ (λ q. get-from_entries nat_list_cmp_total (with_plain_values m.entries) q ∙ sym (get-from_sorted key_cmp (with_plain_values m.entries) q sorted)) in
    ap fin.entries same ∙ entries-from_sorted key_cmp (with_plain_values m.entries) sorted

less_from : (r : Ordering) → T (is_lt r) → r ≡ Less
less_from Less h = refl
less_from Equal h = absurd h
less_from Greater h = absurd h

none_above : {X : Type 0} (q k : List ℕ) (es : List (List ℕ × X)) → key_cmp q k ≡ Equal → T (below_all key_cmp k es) → find key_cmp q es ≡ None
none_above q k [] ties h = refl
none_above q k (e ∷ es) ties h =
    let apart : key_cmp q e.0 ≡ Less = nat_list_cmp_total.congr q k e.0 ties ∙ less_from _ (first_true _ _ h) in
    ap (λ r. cond (is_eq r) (Some e.1) (find key_cmp q es)) apart ∙ none_above q k es ties (second_true _ _ h)

-- in a list whose keys rise, the first entry of a key is its last
find-reverse : {X : Type 0} (q : List ℕ) (es : List (List ℕ × X)) → T (is_sorted key_cmp es) → find key_cmp q (reverse es) ≡ find key_cmp q es
find-reverse q [] h = refl
find-reverse q (e ∷ es) h =
    ap (find key_cmp q) (reverse-append (e ∷ []) es) ∙ find_append q (reverse es) (e ∷ [])
    ∙ ap (λ o. option_or o (find key_cmp q (e ∷ []))) (find-reverse q es (second_true _ _ h))
    ∙ elim (key_cmp q e.0) as (λ r. key_cmp q e.0 ≡ r → option_or (find key_cmp q es) (cond (is_eq r) (Some e.1) None) ≡ cond (is_eq r) (Some e.1) (find key_cmp q es)) [
      | Less ↦ λ _. or_none (find key_cmp q es)
      | Equal ↦ λ ties. ap (λ o. option_or o (Some e.1)) (none_above q e.0 es ties (first_true _ _ h))
      | Greater ↦ λ _. or_none (find key_cmp q es)
    ] refl

-- a list of pairs as a map in which the last value of a key counts
abbrev pub last_wins : List (List ℕ × PlainValue) → Attributes
last_wins es = from_entries (reverse es)

pub last_wins-push : (es : List (List ℕ × PlainValue)) (e : List ℕ × PlainValue) → last_wins (es ++ e ∷ []) ≡ fin.insert (last_wins es) e.0 e.1
last_wins-push es e = ap (λ (xs : List (List ℕ × PlainValue)). from_entries {R = key_cmp} xs) (reverse-append es (e ∷ []))

-- the entries of a map make that map
pub last_wins-entries : (m : Attributes) → last_wins (fin.entries m) ≡ m
last_wins-entries m = attributes_by_name _ _ (λ q.
    get-from_entries nat_list_cmp_total (reverse (fin.entries m)) q ∙ find-reverse q (fin.entries m) (entries_sorted m) ∙ sym (get-entries m q))

pub len-by_key : (m : BTreeMap (List ℕ) Value) → tree.IsOrdered key_cmp m → fin.len (by_key m) ≡ tree.btree_map_len m
len-by_key m ordered = len-entries (by_key m) ∙ ap length (entries-by_key m ordered) ∙ length-map m.entries (λ (e : List ℕ × Value). (e.0, plain_value e.1))

pub plain_copied : (o : Option (Bor Value)) → option_map (λ v. plain_value v.now) o ≡ option_map plain_value (option_copied o)
plain_copied None = refl
plain_copied (Some v) = refl

pub nothing_in : {X : Type 0} (xs : List X) → length xs ≡ 0 → xs ≡ []
nothing_in [] h = refl
nothing_in (x ∷ xs) h = absurd (omega arith)

pub entries-empty : fin.entries (fin.empty {X = PlainValue} {R = key_cmp}) ≡ []
entries-empty = nothing_in _ (sym (len-entries _) ∙ fin.len-empty key_cmp PlainValue)

-- a loop that puts one pair after another into a map
pub put_pair : (base m n : Attributes) (pairs : List PlainKeyValue) (a : PlainKeyValue) → n ≡ fin.insert m a.key a.value → m ≡ union base (attributes_of pairs)
    → n ≡ union base (attributes_of (pairs ++ a ∷ []))
put_pair base m n pairs a put so_far =
    put ∙ ap (λ o. fin.insert o a.key a.value) so_far ∙ sym (union-insert base (attributes_of pairs) a.key a.value)
    ∙ ap (union base) (sym (attributes_of-push pairs a))

-- the same for the pairs of another map
pub put_entry : (base m n : Attributes) (es : List (List ℕ × PlainValue)) (e : List ℕ × PlainValue) → n ≡ fin.insert m e.0 e.1 → m ≡ union base (last_wins es)
    → n ≡ union base (last_wins (es ++ e ∷ []))
put_entry base m n es e put so_far =
    put ∙ ap (λ o. fin.insert o e.0 e.1) so_far ∙ sym (union-insert base (last_wins es) e.0 e.1) ∙ ap (union base) (sym (last_wins-push es e))

with_plain_values-clone : (es fs : List (List ℕ × Value)) → AllZip (λ p q. (q.0 ≡ p.0) × (plain_value q.1 ≡ plain_value p.1)) es fs → with_plain_values fs ≡ with_plain_values es
unfolding with_plain_values
with_plain_values-clone [] [] h = refl
with_plain_values-clone [] (f ∷ fs) h = absurd h
with_plain_values-clone (e ∷ es) [] h = absurd h
with_plain_values-clone (e ∷ es) (f ∷ fs) h = λ i. (h.0.0 i, h.0.1 i) ∷ with_plain_values-clone es fs h.1 i

-- copies of the keys and values make the same map
pub by_key-clone : (m n : BTreeMap (List ℕ) Value) → AllZip (λ p q. (q.0 ≡ p.0) × (plain_value q.1 ≡ plain_value p.1)) m.entries n.entries → by_key n ≡ by_key m
unfolding with_plain_values
by_key-clone m n h = ap (λ (es : List (List ℕ × PlainValue)). from_entries {R = key_cmp} es) (with_plain_values-clone m.entries n.entries h)

-- two resources with equal parts
pub same_resource : (a b : Attributes) (s t : List ℕ) → a ≡ b → s ≡ t
    → ◌≡◌ {A = PlainResource} (record { attributes = a; schema_url = s }) (record { attributes = b; schema_url = t })
same_resource a b s t e f = λ i. record { attributes = e i; schema_url = f i }

pub merged_schema-none : (s : List ℕ) → merged_schema s [] ≡ s
merged_schema-none [] = refl
merged_schema-none (b ∷ bs) = refl

-- attributes over attributes are merged at once
pub merge_attributes-merge : (r : PlainResource) (a b : Attributes) → merge (merge r (of_attributes a)) (of_attributes b) ≡ merge r (of_attributes (union a b))
merge_attributes-merge r a b =
    same_resource _ _ _ _ (union_assoc r.attributes a b) (merged_schema-none (merged_schema r.schema_url []))

-- nothing merged over a resource
pub merge-nothing : (r : PlainResource) → merge r (of_attributes fin.empty) ≡ r
merge-nothing r = same_resource _ _ _ _ (union-empty r.attributes) (merged_schema-none r.schema_url)

pub merge-nothing_left : (r : PlainResource) → merge empty_resource r ≡ r
merge-nothing_left r = same_resource _ _ _ _ (union-empty_left r.attributes) refl

pub all_zip_push : {A B : Type 0} (R : A → B → Type 0) (xs : List A) (ys : List B) (x : A) (y : B) → AllZip R xs ys → R x y → AllZip R (xs ++ x ∷ []) (ys ++ y ∷ [])
all_zip_push R [] [] x y h r = (r, tt)
all_zip_push R [] (b ∷ ys) x y h r = absurd h
all_zip_push R (a ∷ xs) [] x y h r = absurd h
all_zip_push R (a ∷ xs) (b ∷ ys) x y h r = (h.0, all_zip_push R xs ys x y h.1 r)

pub all_zip_nothing : {A B : Type 0} (R : A → B → Type 0) (xs : List A) → xs ≡ [] → AllZip R xs []
all_zip_nothing R [] e = tt
all_zip_nothing R (x ∷ xs) e = cc

-- one attribute merged over a resource
pub with_pairs-one : (r : PlainResource) (a : PlainKeyValue)
    → record { attributes = fin.insert r.attributes a.key a.value; schema_url = r.schema_url } ≡ with_pairs r (a ∷ [])
with_pairs-one r a =
    same_resource _ _ _ _ (put_pair r.attributes r.attributes _ [] a refl (sym (union-empty r.attributes)))
    (sym (merged_schema-none r.schema_url))

-- attributes merged over nothing
pub merge_nothing-attributes : (a : Attributes) → merge empty_resource (of_attributes a) ≡ of_attributes a
merge_nothing-attributes a = same_resource _ _ _ _ (union-empty_left a) refl

pub merged_schema-same : (s : List ℕ) → merged_schema s s ≡ s
merged_schema-same [] = refl
merged_schema-same (b ∷ bs) = rw ((same_text_decides (b ∷ bs) (b ∷ bs)).1 refl) refl

pub not_empty : (t : List ℕ) → non_empty t ≢ Some []
not_empty [] e = cc
not_empty (b ∷ bs) e = cc

below_keys : {X : Type 0} (k : List ℕ) (es : List (List ℕ × X)) → T (below_all key_cmp k es) → AllByRecursion (λ y. key_cmp k y ≡ Less) (map (λ e. e.0) es)
below_keys k [] h = tt
below_keys k (e ∷ es) h = (less_from _ (first_true _ _ h), below_keys k es (second_true _ _ h))

rising_keys : {X : Type 0} (es : List (List ℕ × X)) → T (is_sorted key_cmp es) → IsStrictlySortedBy key_cmp (map (λ e. e.0) es)
unfolding IsStrictlySortedBy
rising_keys [] h = tt
rising_keys (e ∷ es) h = (below_keys e.0 es (first_true _ _ h), rising_keys es (second_true _ _ h))

tied : (r : Ordering) → is_eq r ≡ true → r ≡ Equal
tied Less h = cc
tied Equal h = refl
tied Greater h = cc

same_keys : (a b : List ℕ) → Decides (eq_by_cmp key_cmp a b) (a ≡ b)
same_keys a b = (
  λ h. slice_cmp-IsAntisymmetric nat_cmp-IsAntisymmetric a b (tied _ h),
  λ e. subst (λ k. eq_by_cmp key_cmp a k ≡ true) e ((eq_by_cmp_equiv nat_list_cmp_total).refl a),
)

-- no two keys of a map are equal
pub distinct_keys : (m : Attributes) → AllPairs (λ x y. x ≢ y) (fin.keys m)
distinct_keys m =
    AllPairs-from_IsDistinct same_keys (fin.keys m) (IsDistinct-from_sorted key_cmp (fin.keys m) (rising_keys (fin.entries m) (entries_sorted m)))
