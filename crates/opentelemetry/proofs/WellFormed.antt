-- Pairs of a key and a value: which lists have no others, and that their header reads back as them.
use Rattle.std.proofs.Common.{◌≡◌, ◌≢◌, ℕ, zero, suc, ◌-◌, ◌<◌, Bool, true, false, not, cond, eqb, List, [], ◌∷◌, ◌++◌, length, map, reverse, Option, Some, None, refl, sym, ap, ◌∙◌, subst, arith}
use Rattle.std.specs.List.{All, AllByRecursion, AllZip, filter, list_all, slice_get, slice_index_or, slice_split}
use Rattle.std.specs.Option.{option_map_or}
use Rattle.std.proofs.lemmas.Bool.{false≢true}
use Rattle.std.proofs.lemmas.List.{reverse-reverse}
use Rattle.std.proofs.lemmas.List.Splits.{slice_split_none, slice_split_at}
use borrow.Author.Tests.{ne_eqb}
use Rattle.opentelemetry.specs.declared.trace.trace_state.TraceStateError.TheVariants as faults
use Rattle.opentelemetry.specs.Same.{same_text}
use Rattle.opentelemetry.specs.Tracestate.{ArePairs, IsPair, IsTracestate, SpellsPair, first_pair_fault, is_blank, is_key, is_key_byte, is_key_start, is_some_text, is_value, is_value_byte, last_byte, member_text, members, pair_fault, tracestate_text, trim_front, trimmed, without_key}
use Rattle.opentelemetry.proofs.Blanks.{ends_stay, no_blank}
use Rattle.opentelemetry.proofs.Pieces.{none_of_two}
use Rattle.opentelemetry.proofs.Tracestates.{both_true, key_bytes, key_start, value_bytes, value_end, sound_pair}

-- what has no fault is a pair of a key and a value
pub faultless_pair : (p : List ℕ × List ℕ) → pair_fault p ≡ None → IsPair p
faultless_pair p h = let pair = sound_pair (is_key p.0) (is_value p.1) faults.Value faults.Key h in (pair.0, pair.1)

-- a list without fault has such pairs alone
pub faultless_pairs : (ps : List (List ℕ × List ℕ)) → first_pair_fault ps ≡ None → ArePairs ps
faultless_pairs [] h = tt
faultless_pairs (p ∷ ps) h =
    let none = none_of_two (pair_fault p) (first_pair_fault ps) h in
    (faultless_pair p none.0, faultless_pairs ps none.1)

-- what a text spells are pairs
pub spelled_pairs : (ms : List (List ℕ)) (ps : List (List ℕ × List ℕ)) → AllZip SpellsPair ms ps → ArePairs ps
spelled_pairs [] [] h = tt
spelled_pairs [] (p ∷ ps) h = absurd h
spelled_pairs (m ∷ ms) [] h = absurd h
spelled_pairs (m ∷ ms) (p ∷ ps) h = ((h.0.1, h.0.2), spelled_pairs ms ps h.1)

kept_pairs : (test : List ℕ × List ℕ → Bool) (ps : List (List ℕ × List ℕ)) → ArePairs ps → ArePairs (filter test ps)
kept_pairs test [] h = tt
kept_pairs test (p ∷ ps) h = by (test p) (kept_pairs test ps h.1)
  where
    by : (b : Bool) → ArePairs (filter test ps) → ArePairs (cond b (p ∷ filter test ps) (filter test ps))
    by true rest = (h.0, rest)
    by false rest = rest

-- pairs stay pairs without those of a key
pub other_pairs : (key : List ℕ) (ps : List (List ℕ × List ℕ)) → ArePairs ps → ArePairs (without_key key ps)
other_pairs key ps h = kept_pairs (λ pair. not (same_text pair.0 key)) ps h

at_place : (P : ℕ → Type 0) (xs : List ℕ) → AllByRecursion P xs → (k d : ℕ) → k < length xs → P (slice_index_or xs k d)
at_place P [] h k d inside = absurd (omega arith)
at_place P (x ∷ xs) h zero d inside = h.0
at_place P (x ∷ xs) h (suc k) d inside = at_place P xs h.1 k d (omega arith)

all_from : (P : ℕ → Type 0) (xs : List ℕ) → AllByRecursion P xs → All P xs
all_from P xs h = λ k d inside. at_place P xs h k d inside

-- a byte that passes a test is none that fails it
apart : (test : ℕ → Bool) (x y : ℕ) → test x ≡ true → test y ≡ false → x ≢ y
apart test x y passes fails e = false≢true (sym fails ∙ ap test (sym e) ∙ passes)

passing_is_no_comma : (test : ℕ → Bool) → test 44 ≡ false → (xs rest : List ℕ) → list_all test xs ≡ true → AllByRecursion (λ x. eqb x 44 ≡ false) rest → AllByRecursion (λ x. eqb x 44 ≡ false) (xs ++ rest)
passing_is_no_comma test fails [] rest h after = after
passing_is_no_comma test fails (x ∷ xs) rest h after =
    let both = both_true (test x) (list_all test xs) h in
    (ne_eqb x 44 (apart test x 44 both.0 fails), passing_is_no_comma test fails xs rest both.1 after)

nil_after : (xs : List ℕ) → xs ++ [] ≡ xs
nil_after [] = refl
nil_after (x ∷ xs) = ap (λ t. x ∷ t) (nil_after xs)

-- a member that spells a pair has no comma
no_comma : (k v : List ℕ) → is_key k ≡ true → is_value v ≡ true → All (λ x. eqb x 44 ≡ false) (k ++ 61 ∷ v)
no_comma k v key value =
    let P : List ℕ → Type 0 = AllByRecursion (λ x. eqb x 44 ≡ false) in
    let after : P v = subst P (nil_after v) (passing_is_no_comma is_value_byte refl v [] (value_bytes v value) tt) in
    all_from (λ x. eqb x 44 ≡ false) (k ++ 61 ∷ v) (passing_is_no_comma is_key_byte refl k (61 ∷ v) (key_bytes k key) (refl, after))

last_after : (x y : ℕ) (ys : List ℕ) → last_byte (x ∷ y ∷ ys) ≡ last_byte (y ∷ ys)
last_after x y ys =
    let place : length (x ∷ y ∷ ys) - 1 ≡ suc (length (y ∷ ys) - 1) = omega arith in
    ap (λ n. slice_get (x ∷ y ∷ ys) n) place

last_pushed : (xs : List ℕ) (b : ℕ) → last_byte (xs ++ b ∷ []) ≡ Some b
last_pushed [] b = refl
last_pushed (x ∷ []) b = last_after x b []
last_pushed (x ∷ y ∷ xs) b = last_after x y (xs ++ b ∷ []) ∙ last_pushed (y ∷ xs) b

last_of_after : (xs : List ℕ) (y : ℕ) (ys : List ℕ) → last_byte (xs ++ y ∷ ys) ≡ last_byte (y ∷ ys)
last_of_after [] y ys = refl
last_of_after (x ∷ []) y ys = last_after x y ys
last_of_after (x ∷ z ∷ xs) y ys = last_after x z (xs ++ y ∷ ys) ∙ last_of_after (z ∷ xs) y ys

-- the last byte passes a test that all bytes pass
last_passes : (test : ℕ → Bool) (xs : List ℕ) (b : ℕ) → list_all test xs ≡ true → last_byte xs ≡ Some b → test b ≡ true
last_passes test [] b h is = absurd cc
last_passes test (x ∷ []) b h is = let same : x ≡ b = cc in ap test (sym same) ∙ (both_true (test x) true h).0
last_passes test (x ∷ y ∷ xs) b h is = last_passes test (y ∷ xs) b (both_true (test x) (list_all test (y ∷ xs)) h).1 (sym (last_after x y xs) ∙ is)

-- a member that spells a pair ends with no blank
no_blank_end : (v : List ℕ) (b : ℕ) → is_value v ≡ true → is_blank b ≡ true → last_byte (61 ∷ v) ≢ Some b
no_blank_end [] b value blank = λ e. let same : 61 ≡ b = cc in false≢true (ap is_blank same ∙ blank)
no_blank_end (c ∷ cs) b value blank = λ e.
    let is : last_byte (c ∷ cs) ≡ Some b = sym (last_after 61 c cs) ∙ e in
    let byte : is_value_byte b ≡ true = last_passes is_value_byte (c ∷ cs) b (value_bytes (c ∷ cs) value) is in
    let no_space : eqb b 32 ≡ false = ap (λ (o : Option ℕ). option_map_or (λ x. eqb x 32) o false) (sym is) ∙ value_end (c ∷ cs) value in
    let no_tab : eqb b 9 ≡ false = ne_eqb b 9 (apart is_value_byte b 9 byte refl) in
    let none : is_blank b ≡ false = cc in
    false≢true (sym none ∙ blank)

no_end : (k v : List ℕ) (b : ℕ) → is_value v ≡ true → is_blank b ≡ true → (front : List ℕ) → k ++ 61 ∷ v ≢ front ++ b ∷ []
no_end k v b value blank front e = no_blank_end v b value blank (sym (last_of_after k 61 v) ∙ ap last_byte e ∙ last_pushed front b)

-- a text that begins with no blank has none in front
front_stays : (k rest : List ℕ) → is_key k ≡ true → trim_front (k ++ rest) ≡ k ++ rest
front_stays [] rest h = absurd cc
front_stays (b ∷ k) rest h =
    let start : is_key_start b ≡ true = key_start (b ∷ k) h in
    ap (λ t. cond t (trim_front (k ++ rest)) (b ∷ k ++ rest)) (no_blank b (apart is_key_start b 32 start refl) (apart is_key_start b 9 start refl))

-- a member that spells a pair has no blanks around it
member_stays : (k v : List ℕ) → is_key k ≡ true → is_value v ≡ true → trimmed (k ++ 61 ∷ v) ≡ k ++ 61 ∷ v
member_stays k v key value =
    ap (λ t. reverse (trim_front (reverse t))) (front_stays k (61 ∷ v) key)
    ∙ ap reverse (ends_stay (k ++ 61 ∷ v) (no_end k v 32 value refl) (no_end k v 9 value refl))
    ∙ reverse-reverse (k ++ 61 ∷ v)

member_is_some : (k rest : List ℕ) → is_key k ≡ true → is_some_text (k ++ rest) ≡ true
member_is_some [] rest h = absurd cc
member_is_some (b ∷ k) rest h = refl

-- the first member of a text is one, where it spells a pair
first_member : (k v : List ℕ) (more : List (List ℕ)) → is_key k ≡ true → is_value v ≡ true → filter is_some_text (map trimmed ((k ++ 61 ∷ v) ∷ more)) ≡ (k ++ 61 ∷ v) ∷ filter is_some_text (map trimmed more)
first_member k v more key value =
    ap (λ m. filter is_some_text (m ∷ map trimmed more)) (member_stays k v key value)
    ∙ ap (λ b. cond b ((k ++ 61 ∷ v) ∷ filter is_some_text (map trimmed more)) (filter is_some_text (map trimmed more))) (member_is_some k (61 ∷ v) key)

-- the members of the header of pairs are those that spell them
header_members : (ps : List (List ℕ × List ℕ)) → ArePairs ps → members (tracestate_text ps) ≡ map member_text ps
header_members [] h = refl
header_members (p ∷ []) h =
    ap (λ l. filter is_some_text (map trimmed l)) (slice_split_none (λ b. eqb b 44) (member_text p) (no_comma p.0 p.1 h.0.0 h.0.1))
    ∙ first_member p.0 p.1 [] h.0.0 h.0.1
header_members (p ∷ q ∷ ps) h =
    ap (λ l. filter is_some_text (map trimmed l)) (slice_split_at (λ b. eqb b 44) (member_text p) 44 (tracestate_text (q ∷ ps)) (no_comma p.0 p.1 h.0.0 h.0.1) refl)
    ∙ first_member p.0 p.1 (slice_split (λ b. eqb b 44) (tracestate_text (q ∷ ps))) h.0.0 h.0.1
    ∙ ap (λ l. member_text p ∷ l) (header_members (q ∷ ps) h.1)

spelled_by_members : (ps : List (List ℕ × List ℕ)) → ArePairs ps → AllZip SpellsPair (map member_text ps) ps
spelled_by_members [] h = tt
spelled_by_members (p ∷ ps) h = ((refl, h.0.0, h.0.1), spelled_by_members ps h.1)

-- the header of pairs reads back as them
pub header_reads_back : (ps : List (List ℕ × List ℕ)) → ArePairs ps → IsTracestate (tracestate_text ps) ps
header_reads_back ps h = subst (λ ms. AllZip SpellsPair ms ps) (sym (header_members ps h)) (spelled_by_members ps h)
