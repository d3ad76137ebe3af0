-- A text without fault spells exactly the pairs of its members.
use Rattle.std.proofs.Common.{◌≡◌, ◌≢◌, not, ℕ, ◌+◌, ◌<◌, Bool, true, false, cond, eqb, ◌&&◌, List, [], ◌∷◌, ◌++◌, length, take, drop, get_or, map, Option, Some, None, refl, sym, ap, ◌∙◌, subst, arith, length-append}
use Rattle.std.specs.Prelude.{nat_le, slice_index}
use Rattle.std.specs.List.{AllZip, list_all, position_or_len, before_first, after_first}
use Rattle.std.proofs.lemmas.List.Sums.{passes_at_first, position_or_len_is, prefix_len-le-length}
use Rattle.std.proofs.lemmas.List.{take-append-drop, drop_more, take_at, drop_at, get_or_at, get_or_append_left}
use Rattle.std.proofs.lemmas.List.Folds.{list_all_at}
use Rattle.std.proofs.lemmas.Bool.{false≢true}
use Rattle.opentelemetry.specs.declared.trace.trace_state.TraceStateError.TheVariants as faults
use borrow.Author.Tests.{eqb-true, eq-eqb, ne_eqb}
use Rattle.opentelemetry.specs.declared.trace.trace_state.TraceStateError.{TraceStateError}
use Rattle.opentelemetry.specs.Tracestate.{SpellsPair, first_fault, is_equals, is_key, is_key_byte, is_key_start, is_value, is_value_byte, ends_with_space, first_of_two, member_fault, pair_fault, pair_of}
use Rattle.opentelemetry.proofs.Pieces.{none_of_two}

pub both_true : (a b : Bool) → (a && b) ≡ true → (a ≡ true) × (b ≡ true)
both_true true b h = (refl, h)
both_true false b h = absurd cc

-- a pair without fault has a key and a value
pub sound_pair : (k v : Bool) (e f : TraceStateError) → cond k (cond v None (Some e)) (Some f) ≡ None → (k ≡ true) × (v ≡ true)
sound_pair true true e f h = (refl, refl)
sound_pair true false e f h = absurd cc
sound_pair false v e f h = absurd cc

-- a member without fault has an equals sign
sound_member : (none : Bool) (e : TraceStateError) (rest : Option TraceStateError) → cond none (Some e) rest ≡ None → (none ≡ false) × (rest ≡ None)
sound_member true e rest h = absurd cc
sound_member false e rest h = (refl, h)

-- where the place is not the end, it is before the end
found : (m : List ℕ) → eqb (position_or_len is_equals m) (length m) ≡ false → position_or_len is_equals m < length m
found m h =
    let apart : position_or_len is_equals m ≢ length m = λ e. false≢true (sym h ∙ eq-eqb (position_or_len is_equals m) (length m) e) in
    omega (arith, prefix_len-le-length (λ x. not (is_equals x)) m)

-- a list around its first equals sign
around : (m : List ℕ) → position_or_len is_equals m < length m → m ≡ before_first is_equals m ++ 61 ∷ after_first is_equals m
around m inside =
    let i : ℕ = position_or_len is_equals m in
    let equals : get_or m i 0 ≡ 61 = eqb-true (get_or m i 0) 61 (passes_at_first is_equals m 0 inside) in
    sym (take-append-drop i m) ∙ ap (λ t. take i m ++ t) (drop_more m i 0 inside) ∙ ap (λ b. take i m ++ b ∷ drop (i + 1) m) equals

-- a member without fault spells the pair at its first equals sign
spells : (m : List ℕ) → member_fault m ≡ None → SpellsPair m (pair_of m)
spells m h =
    let here = sound_member (eqb (position_or_len is_equals m) (length m)) faults.List (pair_fault (pair_of m)) h in
    let pair = sound_pair (is_key (before_first is_equals m)) (is_value (after_first is_equals m)) faults.Value faults.Key here.1 in
    (around m (found m here.0), pair.0, pair.1)

-- a key has no equals sign
no_equals : (k : List ℕ) (j : ℕ) → list_all is_key_byte k ≡ true → j < length k → is_equals (get_or k j 0) ≡ false
no_equals k j good inside = ne_eqb (get_or k j 0) 61 (λ e. false≢true (sym (list_all_at is_key_byte k j 0 inside (ap is_key_byte e)) ∙ good))

-- what is said of a key's first byte and of all its bytes
key_parts : (k : List ℕ) → is_key k ≡ true → (is_key_start (slice_index k 0) ≡ true) × (list_all is_key_byte k ≡ true)
key_parts k h =
    both_true (is_key_start (slice_index k 0)) (list_all is_key_byte k)
    (both_true (nat_le (length k) 256) (is_key_start (slice_index k 0) && list_all is_key_byte k)
    (both_true (nat_le 1 (length k)) (nat_le (length k) 256 && (is_key_start (slice_index k 0) && list_all is_key_byte k)) h).1).1

pub key_start : (k : List ℕ) → is_key k ≡ true → is_key_start (slice_index k 0) ≡ true
key_start k h = (key_parts k h).0

pub key_bytes : (k : List ℕ) → is_key k ≡ true → list_all is_key_byte k ≡ true
key_bytes k h = (key_parts k h).1

-- what is said of a value's bytes and of its last one
value_parts : (v : List ℕ) → is_value v ≡ true → (list_all is_value_byte v ≡ true) × (not (ends_with_space v) ≡ true)
value_parts v h =
    both_true (list_all is_value_byte v) (not (ends_with_space v))
    (both_true (nat_le (length v) 256) (list_all is_value_byte v && not (ends_with_space v)) h).1

pub value_bytes : (v : List ℕ) → is_value v ≡ true → list_all is_value_byte v ≡ true
value_bytes v h = (value_parts v h).0

turned : (b : Bool) → not b ≡ true → b ≡ false
turned true h = absurd cc
turned false h = refl

pub value_end : (v : List ℕ) → is_value v ≡ true → ends_with_space v ≡ false
value_end v h = turned (ends_with_space v) (value_parts v h).1

-- the first equals sign after a key is the one that follows it
first_equals : (k v : List ℕ) → is_key k ≡ true → position_or_len is_equals (k ++ 61 ∷ v) ≡ length k
first_equals k v h =
    position_or_len_is is_equals (k ++ 61 ∷ v) (length k) 0 (omega (arith, length-append k (61 ∷ v)))
    (λ j inside. ap is_equals (get_or_append_left k (61 ∷ v) 0 j inside) ∙ no_equals k j (key_bytes k h) inside)
    (λ inside. ap is_equals (get_or_at k 61 v 0 (length k) refl))

-- cut there, a member gives its key and its value
cut_member : (k v : List ℕ) → is_key k ≡ true → pair_of (k ++ 61 ∷ v) ≡ (k, v)
cut_member k v h =
    let place = first_equals k v h in
    let front : before_first is_equals (k ++ 61 ∷ v) ≡ k = ap (λ n. take n (k ++ 61 ∷ v)) place ∙ take_at k (61 ∷ v) (length k) refl in
    let inside : length k < length (k ++ 61 ∷ v) = omega (arith, length-append k (61 ∷ v)) in
    let seam : 61 ∷ v ≡ get_or (k ++ 61 ∷ v) (length k) 0 ∷ drop (length k + 1) (k ++ 61 ∷ v) = sym (drop_at k (61 ∷ v) (length k) refl) ∙ drop_more (k ++ 61 ∷ v) (length k) 0 inside in
    let tail : v ≡ drop (length k + 1) (k ++ 61 ∷ v) = cc in
    let back : after_first is_equals (k ++ 61 ∷ v) ≡ v = ap (λ n. drop (n + 1) (k ++ 61 ∷ v)) place ∙ sym tail in
    λ i. (front i, back i)

-- the pair that a member spells is the one at its first equals sign
spelled_pair : (k v : List ℕ) → is_key k ≡ true → is_value v ≡ true → (member_fault (k ++ 61 ∷ v) ≡ None) × ((k, v) ≡ pair_of (k ++ 61 ∷ v))
spelled_pair k v key value =
    let inside : position_or_len is_equals (k ++ 61 ∷ v) ≢ length (k ++ 61 ∷ v) = λ e. omega (arith, e, first_equals k v key, length-append k (61 ∷ v)) in
    let sound : pair_fault (k, v) ≡ None = ap (λ b. cond b (cond (is_value v) None (Some faults.Value)) (Some faults.Key)) key ∙ ap (λ b. cond b None (Some faults.Value)) value in (
      ap (λ b. cond b (Some faults.List) (pair_fault (pair_of (k ++ 61 ∷ v)))) (ne_eqb (position_or_len is_equals (k ++ 61 ∷ v)) (length (k ++ 61 ∷ v)) inside)
          ∙ ap pair_fault (cut_member k v key) ∙ sound,
      sym (cut_member k v key),
    )

spelled : (m : List ℕ) (p : List ℕ × List ℕ) → SpellsPair m p → (member_fault m ≡ None) × (p ≡ pair_of m)
spelled m p h = let P : List ℕ → Type 0 = λ t. (member_fault t ≡ None) × (p ≡ pair_of t) in subst P (sym h.0) (spelled_pair p.0 p.1 h.1 h.2)

-- a text without fault spells the pairs of its members
pub spells_members : (ms : List (List ℕ)) → first_fault ms ≡ None → AllZip SpellsPair ms (map pair_of ms)
spells_members [] h = tt
spells_members (m ∷ ms) h = let none = none_of_two (member_fault m) (first_fault ms) h in (spells m none.0, spells_members ms none.1)

-- and no other pairs
pub spells_only : (ms : List (List ℕ)) (ps : List (List ℕ × List ℕ)) → AllZip SpellsPair ms ps → (first_fault ms ≡ None) × (ps ≡ map pair_of ms)
spells_only [] [] h = (refl, refl)
spells_only [] (p ∷ ps) h = absurd h
spells_only (m ∷ ms) [] h = absurd h
spells_only (m ∷ ms) (p ∷ ps) h =
    let first = spelled m p h.0 in
    let others = spells_only ms ps h.1 in
    let here : member_fault m ≡ None = first.0 in
    let there : first_fault ms ≡ None = others.0 in
    (ap (λ f. first_of_two f (first_fault ms)) here ∙ there, λ i. first.1 i ∷ others.1 i)
