-- The entries of a baggage, and the map that keeps them.
use Rattle.std.proofs.Common.{◌≡◌, ◌≢◌, ℕ, ◌+◌, ◌-◌, ◌<◌, ◌≤◌, ◌⊎◌, inl, inr, Bool, true, false, cond, List, [], ◌∷◌, length, string_bytes, String, Option, Some, None, is_some, unwrap_or, refl, sym, ◌∙◌, ap, arith, true≢false}
use Rattle.std.specs.Option.{option_map, option_map_or}
use Rattle.std.specs.Str.{bytes_eq}
use Rattle.std.specs.String.{string_eq}
use Rattle.std.specs.Map.{lookup, set_value, remove_entry, keys_of}
use Rattle.std.specs.List.{AllByRecursion, IsDistinct, AllZip}
use Rattle.std.proofs.lemmas.Bool.{cases_lt}
use Rattle.std.proofs.lemmas.Map.Keys.{IsDistinct-head, IsDistinct-tail}
use Rattle.std.proofs.lemmas.List.Sums.{sum_by-cons}
use Rattle.std.proofs.lemmas.Slice.Eq.{bytes_eq-Decides}
use Rattle.indexmap.specs.IndexMap.{insert_entry}
use Rattle.opentelemetry.specs.Baggage.{PlainBaggageEntry, PlainBaggage, value_and_metadata, found_at, found_bytes, entry_bytes, baggage_bytes, entry_at, with_entry, without_entry, plain_entry, plain_entries, HasNames, IsFreeName, HasDistinctNames, BreaksLimit, IsWithinLimits, entry_of}

same_name : (a b : List ℕ) → bytes_eq a b ≡ true → b ≡ a
same_name a b h = sym ((bytes_eq-Decides a b).0 h)

-- an entry put into the map
pub plain-insert_entry : {Y Z : Type 0} (es : List (String Y × (String Z × List ℕ))) (k : String Y) (v : String Z × List ℕ) → plain_entries (insert_entry string_eq es k v) ≡ with_entry (plain_entries es) (plain_entry (k, v))
plain-insert_entry [] k v = refl
plain-insert_entry {Y} {Z} (e ∷ es) k v = by (bytes_eq (string_bytes k) (string_bytes e.0)) refl (plain-insert_entry es k v)
  where
    by : (b : Bool) → bytes_eq (string_bytes k) (string_bytes e.0) ≡ b → plain_entries (insert_entry string_eq es k v) ≡ with_entry (plain_entries es) (plain_entry (k, v))
        → plain_entries (cond b ((e.0, v) ∷ es) (e ∷ insert_entry string_eq es k v)) ≡ cond b (plain_entry (k, v) ∷ plain_entries es) (plain_entry e ∷ with_entry (plain_entries es) (plain_entry (k, v)))
    by true h rest = let same : string_bytes e.0 ≡ string_bytes k = same_name _ _ h in ap (λ (name : List ℕ). record { key = name; value = string_bytes v.0; metadata = v.1 } ∷ plain_entries es) same
    by false h rest = ap (λ (others : PlainBaggage). plain_entry e ∷ others) rest

-- another value for a name that the map has
pub plain-set_value : {Y Z : Type 0} (es : List (String Y × (String Z × List ℕ))) (name : List ℕ) (old v : String Z × List ℕ) → lookup (λ k. bytes_eq name (string_bytes k)) es ≡ Some old
    → plain_entries (set_value (λ k. bytes_eq name (string_bytes k)) es v) ≡ with_entry (plain_entries es) (entry_of name (string_bytes v.0) v.1)
plain-set_value [] name old v found = absurd cc
plain-set_value {Y} {Z} (e ∷ es) name old v found = by (bytes_eq name (string_bytes e.0)) refl found (plain-set_value es name old v)
  where
    others : List (String Y × (String Z × List ℕ))
    others = set_value (λ k. bytes_eq name (string_bytes k)) es v

    new : PlainBaggageEntry
    new = entry_of name (string_bytes v.0) v.1

    by : (b : Bool) → bytes_eq name (string_bytes e.0) ≡ b → cond b (Some e.1) (lookup (λ k. bytes_eq name (string_bytes k)) es) ≡ Some old
        → (lookup (λ k. bytes_eq name (string_bytes k)) es ≡ Some old → plain_entries others ≡ with_entry (plain_entries es) new)
        → plain_entries (cond b ((e.0, v) ∷ es) (e ∷ others)) ≡ cond b (new ∷ plain_entries es) (plain_entry e ∷ with_entry (plain_entries es) new)
    by true h is rest = let same : string_bytes e.0 ≡ name = same_name _ _ h in ap (λ (n : List ℕ). entry_of n (string_bytes v.0) v.1 ∷ plain_entries es) same
    by false h is rest = ap (λ (all : PlainBaggage). plain_entry e ∷ all) (rest is)

-- the value under a name
pub lookup_at : {Y Z : Type 0} (es : List (String Y × (String Z × List ℕ))) (name : List ℕ) → option_map value_and_metadata (entry_at (plain_entries es) name) ≡ option_map (λ v. (string_bytes v.0, v.1)) (lookup (λ k. bytes_eq name (string_bytes k)) es)
lookup_at [] name = refl
lookup_at (e ∷ es) name = elim (bytes_eq name (string_bytes e.0)) as (λ b. option_map value_and_metadata (cond b (Some (plain_entry e)) (entry_at (plain_entries es) name)) ≡ option_map (λ v. (string_bytes v.0, v.1)) (cond b (Some e.1) (lookup (λ k. bytes_eq name (string_bytes k)) es))) [ true ↦ refl | false ↦ lookup_at es name ]

-- an entry taken out of the map
pub plain-remove_entry : {Y Z : Type 0} (es : List (String Y × (String Z × List ℕ))) (name : List ℕ) → plain_entries (remove_entry (λ k. bytes_eq name (string_bytes k)) es) ≡ without_entry (plain_entries es) name
plain-remove_entry [] name = refl
plain-remove_entry (e ∷ es) name = elim (bytes_eq name (string_bytes e.0)) as (λ b. plain_entries (cond b es (e ∷ remove_entry (λ k. bytes_eq name (string_bytes k)) es)) ≡ cond b (plain_entries es) (plain_entry e ∷ without_entry (plain_entries es) name)) [ true ↦ refl | false ↦ ap (λ (rest : PlainBaggage). plain_entry e ∷ rest) (plain-remove_entry es name) ]

-- the bytes under a name, by its value and metadata
pub entry_at-bytes : (es : PlainBaggage) (name : List ℕ) → option_map entry_bytes (entry_at es name) ≡ option_map (λ (p : List ℕ × List ℕ). length name + length p.0 + length p.1) (option_map value_and_metadata (entry_at es name))
entry_at-bytes [] name = refl
entry_at-bytes (e ∷ es) name = by (bytes_eq name e.key) refl (entry_at-bytes es name)
  where
    by : (b : Bool) → bytes_eq name e.key ≡ b → option_map entry_bytes (entry_at es name) ≡ option_map (λ (p : List ℕ × List ℕ). length name + length p.0 + length p.1) (option_map value_and_metadata (entry_at es name))
        → option_map entry_bytes (cond b (Some e) (entry_at es name)) ≡ option_map (λ (p : List ℕ × List ℕ). length name + length p.0 + length p.1) (option_map value_and_metadata (cond b (Some e) (entry_at es name)))
    by true h rest = let same : e.key ≡ name = same_name _ _ h in ap (λ (n : List ℕ). Some (length n + length e.value + length e.metadata)) same
    by false h rest = rest

-- the bytes under a name, from what the map has there
pub bytes_at-Some : {Y Z : Type 0} (es : List (String Y × (String Z × List ℕ))) (name : List ℕ) (v : String Z × List ℕ) → lookup (λ k. bytes_eq name (string_bytes k)) es ≡ Some v → option_map entry_bytes (entry_at (plain_entries es) name) ≡ Some (length name + length (string_bytes v.0) + length v.1)
bytes_at-Some {Y} {Z} es name v h =
    entry_at-bytes (plain_entries es) name ∙ ap (option_map (λ (p : List ℕ × List ℕ). length name + length p.0 + length p.1)) (lookup_at es name ∙ ap (option_map (λ (w : String Z × List ℕ). (string_bytes w.0, w.1))) h)

-- no entry counts for more than all do
pub bytes_at-le : (es : PlainBaggage) (name : List ℕ) → option_map_or entry_bytes (entry_at es name) 0 ≤ baggage_bytes es
bytes_at-le [] name = omega arith
bytes_at-le (e ∷ es) name =
    let all = sum_by-cons entry_bytes e es in
    let rest = bytes_at-le es name in
    elim (bytes_eq name e.key) as (λ b. option_map_or entry_bytes (cond b (Some e) (entry_at es name)) 0 ≤ baggage_bytes (e ∷ es)) [ true ↦ omega arith | false ↦ omega arith ]

-- what stands after an entry was put counts for it, in place of what was under its name
pub baggage_bytes-with_entry : (es : PlainBaggage) (new : PlainBaggageEntry) → baggage_bytes (with_entry es new) + option_map_or entry_bytes (entry_at es new.key) 0 ≡ baggage_bytes es + entry_bytes new
baggage_bytes-with_entry [] new = omega arith
baggage_bytes-with_entry (e ∷ es) new =
    let all = sum_by-cons entry_bytes e es in
    let replaced = sum_by-cons entry_bytes new es in
    let kept = sum_by-cons entry_bytes e (with_entry es new) in
    let rest = baggage_bytes-with_entry es new in
    elim (bytes_eq new.key e.key) as (λ b. baggage_bytes (cond b (new ∷ es) (e ∷ with_entry es new)) + option_map_or entry_bytes (cond b (Some e) (entry_at es new.key)) 0 ≡ baggage_bytes (e ∷ es) + entry_bytes new) [ true ↦ omega arith | false ↦ omega arith ]

-- a new name is one more entry
pub length-with_entry : (es : PlainBaggage) (new : PlainBaggageEntry) → length (with_entry es new) ≡ length es + cond (is_some (entry_at es new.key)) 0 1
length-with_entry [] new = omega arith
length-with_entry (e ∷ es) new =
    let rest = length-with_entry es new in
    elim (bytes_eq new.key e.key) as (λ b. length (cond b (new ∷ es) (e ∷ with_entry es new)) ≡ length (e ∷ es) + cond (is_some (cond b (Some e) (entry_at es new.key))) 0 1) [ true ↦ omega arith | false ↦ omega arith ]

-- an entry with a name joins entries with names
pub HasNames-with_entry : (es : PlainBaggage) (new : PlainBaggageEntry) → new.key ≢ [] → HasNames es → HasNames (with_entry es new)
HasNames-with_entry [] new named all = (named, tt)
HasNames-with_entry (e ∷ es) new named all =
    let rest = HasNames-with_entry es new named all.1 in
    elim (bytes_eq new.key e.key) as (λ b. HasNames (cond b (new ∷ es) (e ∷ with_entry es new))) [ true ↦ (named, all.1) | false ↦ (all.0, rest) ]

-- what is left after an entry was taken out counts for the others
pub baggage_bytes-without_entry : (es : PlainBaggage) (name : List ℕ) → baggage_bytes (without_entry es name) + option_map_or entry_bytes (entry_at es name) 0 ≡ baggage_bytes es
baggage_bytes-without_entry [] name = omega arith
baggage_bytes-without_entry (e ∷ es) name =
    let all = sum_by-cons entry_bytes e es in
    let kept = sum_by-cons entry_bytes e (without_entry es name) in
    let rest = baggage_bytes-without_entry es name in
    elim (bytes_eq name e.key) as (λ b. baggage_bytes (cond b es (e ∷ without_entry es name)) + option_map_or entry_bytes (cond b (Some e) (entry_at es name)) 0 ≡ baggage_bytes (e ∷ es)) [ true ↦ omega arith | false ↦ omega arith ]

pub length-without_entry : (es : PlainBaggage) (name : List ℕ) → length (without_entry es name) ≤ length es
length-without_entry [] name = omega arith
length-without_entry (e ∷ es) name =
    let rest = length-without_entry es name in
    elim (bytes_eq name e.key) as (λ b. length (cond b es (e ∷ without_entry es name)) ≤ length (e ∷ es)) [ true ↦ omega arith | false ↦ omega arith ]

pub HasNames-without_entry : (es : PlainBaggage) (name : List ℕ) → HasNames es → HasNames (without_entry es name)
HasNames-without_entry [] name all = tt
HasNames-without_entry (e ∷ es) name all =
    let rest = HasNames-without_entry es name all.1 in
    elim (bytes_eq name e.key) as (λ b. HasNames (cond b es (e ∷ without_entry es name))) [ true ↦ all.1 | false ↦ (all.0, rest) ]

pub unwrap_or-mapped : {A : Type 0} (f : A → ℕ) (o : Option A) → unwrap_or (option_map f o) 0 ≡ option_map_or f o 0
unwrap_or-mapped f None = refl
unwrap_or-mapped f (Some x) = refl

-- whether the map has a name is whether there is an entry of it
pub is_some-entry_at : {Y Z : Type 0} (es : List (String Y × (String Z × List ℕ))) (name : List ℕ) → is_some (entry_at (plain_entries es) name) ≡ is_some (lookup (λ k. bytes_eq name (string_bytes k)) es)
is_some-entry_at [] name = refl
is_some-entry_at (e ∷ es) name = elim (bytes_eq name (string_bytes e.0)) as (λ b. is_some (cond b (Some (plain_entry e)) (entry_at (plain_entries es) name)) ≡ is_some (cond b (Some e.1) (lookup (λ k. bytes_eq name (string_bytes k)) es))) [ true ↦ refl | false ↦ is_some-entry_at es name ]

-- what a baggage may take leaves it within the limits
pub IsWithinLimits-with_entry : (es : PlainBaggage) (new : PlainBaggageEntry) → ¬ (BreaksLimit es new) → HasNames es → IsWithinLimits (with_entry es new)
IsWithinLimits-with_entry es new allowed named =
    let few : 64 < length (with_entry es new) → ⊥ = λ h. allowed (inr (inl h)) in
    let small : 8192 < baggage_bytes (with_entry es new) → ⊥ = λ h. allowed (inr (inr h)) in
    record { few = omega arith; small = omega arith; have_names = HasNames-with_entry es new (λ h. allowed (inl h)) named }

-- what is left when an entry was taken out is within the limits
pub IsWithinLimits-without_entry : (es : PlainBaggage) (name : List ℕ) → IsWithinLimits es → IsWithinLimits (without_entry es name)
IsWithinLimits-without_entry es name within =
    let fewer = length-without_entry es name in
    let smaller = baggage_bytes-without_entry es name in
    let few = within.few in
    let small = within.small in
    record { few = omega arith; small = omega arith; have_names = HasNames-without_entry es name within.have_names }

free_name : {Y Z : Type 0} (k : String Y) (es : List (String Y × (String Z × List ℕ))) → AllByRecursion (λ y. string_eq k y ≡ false) (keys_of es) → IsFreeName (string_bytes k) (plain_entries es)
free_name k [] h = tt
free_name k (e ∷ es) h = (λ same. true≢false (sym ((bytes_eq-Decides (string_bytes k) (string_bytes e.0)).1 same) ∙ h.0), free_name k es h.1)

-- keys that are no two alike are distinct names
pub HasDistinctNames-plain_entries : {Y Z : Type 0} (es : List (String Y × (String Z × List ℕ))) → IsDistinct string_eq (keys_of es) → HasDistinctNames (plain_entries es)
HasDistinctNames-plain_entries [] h = tt
HasDistinctNames-plain_entries (e ∷ es) h = (free_name e.0 es (IsDistinct-head string_eq e.0 (keys_of es) h), HasDistinctNames-plain_entries es (IsDistinct-tail string_eq e.0 (keys_of es) h))

copy_plain : {Y Z : Type 0} (p q : String Y × (String Z × List ℕ)) → (string_bytes q.0 ≡ string_bytes p.0) × ((string_bytes q.1.0 ≡ string_bytes p.1.0) × (q.1.1 ≡ p.1.1)) → plain_entry q ≡ plain_entry p
copy_plain p q h = let key = h.0 in let value = h.1.0 in let metadata = h.1.1 in cc

-- entries that are clones of each other are the same without where they lie
pub copies_plain : {Y Z : Type 0} (es fs : List (String Y × (String Z × List ℕ))) → AllZip (λ p q. (string_bytes q.0 ≡ string_bytes p.0) × ((string_bytes q.1.0 ≡ string_bytes p.1.0) × (q.1.1 ≡ p.1.1))) es fs → plain_entries fs ≡ plain_entries es
copies_plain [] [] h = refl
copies_plain [] (f ∷ fs) h = absurd h
copies_plain (e ∷ es) [] h = absurd h
copies_plain (e ∷ es) (f ∷ fs) h = let first = copy_plain e f h.0 in let others = copies_plain es fs h.1 in cc

-- where the map has no value, there is no entry
pub no_entry_at : {Y Z : Type 0} (es : List (String Y × (String Z × List ℕ))) (name : List ℕ) → lookup (λ k. bytes_eq name (string_bytes k)) es ≡ None → entry_at (plain_entries es) name ≡ None
no_entry_at {Y} {Z} es name h = none_from (entry_at (plain_entries es) name) (is_some-entry_at es name ∙ ap (λ (o : Option (String Z × List ℕ)). is_some o) h)
  where
    none_from : {A : Type 0} (o : Option A) → is_some o ≡ false → o ≡ None
    none_from None e = refl
    none_from (Some x) e = absurd cc

-- the bytes under a name, by what was found there
pub found_bytes-entry_at : (es : PlainBaggage) (name : List ℕ) → found_bytes (length name) (found_at es name) ≡ option_map_or entry_bytes (entry_at es name) 0
found_bytes-entry_at es name =
    sym (unwrap_or-mapped (λ (p : List ℕ × List ℕ). length name + length p.0 + length p.1) (found_at es name))
    ∙ sym (ap (λ o. unwrap_or o 0) (entry_at-bytes es name)) ∙ unwrap_or-mapped entry_bytes (entry_at es name)

pub is_some-mapped : {A X : Type 0} (f : A → X) (o : Option A) → is_some (option_map f o) ≡ is_some o
is_some-mapped f None = refl
is_some-mapped f (Some x) = refl

module _ (es : PlainBaggage) (new : PlainBaggageEntry) where
  -- a name that stands there breaks no limit of entries, nor does a new one where there is room
  pub few_keeps : length es ≤ 64 → (is_some (option_map entry_bytes (entry_at es new.key)) ≡ true) ⊎ (length es < 64) → length (with_entry es new) ≤ 64
  few_keeps few (inl there) =
      let count = length-with_entry es new in
      let none : cond {A = ℕ} (is_some (entry_at es new.key)) 0 1 ≡ 0 = ap (λ b. cond b 0 1) (sym (is_some-mapped entry_bytes (entry_at es new.key)) ∙ there) in
      omega arith
  few_keeps few (inr room) = by (is_some (entry_at es new.key)) (length-with_entry es new)
    where
      by : (b : Bool) → length (with_entry es new) ≡ length es + cond b 0 1 → length (with_entry es new) ≤ 64
      by true count = omega arith
      by false count = omega arith

  -- the bytes after an entry was put, from those that it replaces
  pub bytes_with_entry : (bytes replaced : ℕ) → bytes ≡ baggage_bytes es → replaced ≡ unwrap_or (option_map entry_bytes (entry_at es new.key)) 0
      → (replaced ≤ bytes) × (baggage_bytes (with_entry es new) ≡ bytes - replaced + entry_bytes new)
  bytes_with_entry bytes replaced counted is =
      let under : replaced ≡ option_map_or entry_bytes (entry_at es new.key) 0 = is ∙ unwrap_or-mapped entry_bytes (entry_at es new.key) in
      let le = bytes_at-le es new.key in
      let all = baggage_bytes-with_entry es new in
      (omega arith, omega arith)

  -- an entry with a name that leaves the baggage small and few breaks no limit
  pub breaks_none : new.key ≢ [] → length (with_entry es new) ≤ 64 → baggage_bytes (with_entry es new) ≤ 8192 → ¬ (BreaksLimit es new)
  breaks_none some few small (inl none) = some none
  breaks_none some few small (inr (inl many)) = omega arith
  breaks_none some few small (inr (inr large)) = omega arith

  -- an entry for which there is room breaks no limit, whatever its name
  pub room_breaks_none : new.key ≢ [] → length es < 64 → baggage_bytes es + entry_bytes new ≤ 8192 → ¬ (BreaksLimit es new)
  room_breaks_none some few small =
      let all = baggage_bytes-with_entry es new in
      breaks_none some (few_keeps (omega arith) (inr few)) (omega arith)

  -- a new name for which there is no room breaks a limit
  pub no_room_breaks : entry_at es new.key ≡ None → (length es < 64 → baggage_bytes es + entry_bytes new ≤ 8192 → ⊥) → BreaksLimit es new
  no_room_breaks absent full =
      let count : length (with_entry es new) ≡ length es + 1 = length-with_entry es new ∙ ap (λ (o : Option PlainBaggageEntry). length es + cond (is_some o) 0 1) absent in
      let bytes : baggage_bytes (with_entry es new) + 0 ≡ baggage_bytes es + entry_bytes new = ap (λ (o : Option PlainBaggageEntry). baggage_bytes (with_entry es new) + option_map_or entry_bytes o 0) (sym absent) ∙ baggage_bytes-with_entry es new in
      by count bytes (cases_lt (length es) 64) (cases_lt 8192 (baggage_bytes es + entry_bytes new))
    where
      by : length (with_entry es new) ≡ length es + 1 → baggage_bytes (with_entry es new) + 0 ≡ baggage_bytes es + entry_bytes new → (length es < 64) ⊎ (64 ≤ length es) → (8192 < baggage_bytes es + entry_bytes new) ⊎ (baggage_bytes es + entry_bytes new ≤ 8192) → BreaksLimit es new
      by count bytes (inl few) (inl large) = inr (inr (omega arith))
      by count bytes (inl few) (inr small) = absurd (full few small)
      by count bytes (inr many) size = inr (inl (omega arith))

  -- an entry in the place of one of its name breaks no limit but that of bytes
  pub replaced_breaks_none : new.key ≢ [] → length es ≤ 64 → is_some (entry_at es new.key) ≡ true → ¬ (8192 < baggage_bytes (with_entry es new)) → ¬ (BreaksLimit es new)
  replaced_breaks_none some few there small (inl none) = some none
  replaced_breaks_none some few there small (inr (inl many)) =
      let kept = few_keeps few (inl (is_some-mapped entry_bytes (entry_at es new.key) ∙ there)) in
      omega arith
  replaced_breaks_none some few there small (inr (inr large)) = small large

-- what all entries count for where one is put in the place of one that the map has
pub replaced_bytes : {Y Z : Type 0} (es : List (String Y × (String Z × List ℕ))) (name : List ℕ) (old v : String Z × List ℕ) (bytes : ℕ) → bytes ≡ baggage_bytes (plain_entries es)
    → lookup (λ k. bytes_eq name (string_bytes k)) es ≡ Some old
    → (length name + length (string_bytes old.0) + length old.1 ≤ bytes)
    × (baggage_bytes (with_entry (plain_entries es) (entry_of name (string_bytes v.0) v.1)) ≡ bytes - (length name + length (string_bytes old.0) + length old.1) + entry_bytes (entry_of name (string_bytes v.0) v.1))
replaced_bytes es name old v bytes counted found =
    bytes_with_entry (plain_entries es) (entry_of name (string_bytes v.0) v.1) bytes _ counted (ap (λ o. unwrap_or o 0) (sym (bytes_at-Some es name old found)))
