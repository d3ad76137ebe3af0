-- The pieces of a text between ASCII characters are texts, and what is trimmed between such characters is trimmed whole.
use Rattle.std.proofs.Common.{◌≡◌, ◌≢◌, ◌⊎◌, inl, inr, ℕ, ◌+◌, ◌/◌, ◌%◌, ◌<◌, ◌≤◌, Bool, true, false, ◌&&◌, eqb, ltb, List, [], ◌∷◌, ◌++◌, length, get_or, map, All, refl, sym, ap, subst, ◌∙◌, ⊎_elim, arith, append-nil, length-append, ne_eqb, eq-eqb}
use Rattle.std.specs.Char.{is_whitespace, encode_utf8}
use Rattle.std.specs.List.{AllByRecursion, join_with_byte, onto_first, slice_split}
use Rattle.std.specs.Str.{IsUtf8, chars, all_scalars, encode_utf8_all, skip_leading_whitespace, drop_trailing_whitespace, trim}
use Rattle.std.proofs.lemmas.Bool.{and_right, both_ways, cond_both, false_from_ne_true, cond-true, cond-false, cases_Bool, eqb-true, ltb-true}
use Rattle.std.proofs.lemmas.List.Elements.{All-nil, All-cons, All-head, All-tail, All-append, All-from_get_or}
use Rattle.std.proofs.lemmas.List.Splits.{join_with_byte-slice_split}
use Rattle.std.proofs.lemmas.Str.{encode_ascii, inside_one, chars-encodes, encodes_same}
use lib.Utf8.{encode, scalar, scalar_cases}
use Rattle.otel_propagation.proofs.TrimLemmas.{trimmed_chars, trim_is, second_true}

-- ---- pieces

-- where a byte cuts a text
abbrev pub at_byte : ℕ → ℕ → Bool
at_byte c b = eqb b c

-- a front put onto the first piece
abbrev onto_pieces : List ℕ → List (List ℕ) → List (List ℕ)
onto_pieces [] pieces = pieces
onto_pieces (x ∷ xs) pieces = onto_first x (onto_pieces xs pieces)

onto_some : (xs : List ℕ) (piece : List ℕ) (pieces : List (List ℕ)) → onto_pieces xs (piece ∷ pieces) ≡ (xs ++ piece) ∷ pieces
onto_some [] piece pieces = refl
onto_some (x ∷ xs) piece pieces = ap (onto_first x) (onto_some xs piece pieces)

split_front : (c : ℕ) (xs ys : List ℕ) → All (λ b. eqb b c ≡ false) xs → slice_split (at_byte c) (xs ++ ys) ≡ onto_pieces xs (slice_split (at_byte c) ys)
split_front c [] ys none = refl
split_front c (x ∷ xs) ys none =
    cond-false _ _ _ (All-head (λ b. eqb b c ≡ false) x xs none) ∙ ap (onto_first x) (split_front c xs ys (All-tail (λ b. eqb b c ≡ false) x xs none))

-- there is a first piece
some_piece : (c : ℕ) (bs : List ℕ) → (piece : List ℕ) × (pieces : List (List ℕ)) × (slice_split (at_byte c) bs ≡ piece ∷ pieces)
some_piece c [] = ([], [], refl)
some_piece c (b ∷ bs) =
    ⊎_elim
    (λ here. ([], slice_split (at_byte c) bs, cond-true _ _ _ here))
    (λ after. let (piece, pieces, is) = some_piece c bs in (b ∷ piece, pieces, cond-false _ _ _ after ∙ ap (onto_first b) is))
    (cases_Bool (eqb b c))

no_byte_of : (c d : ℕ) → c < 128 → d ≢ c → All (λ b. eqb b c ≡ false) (encode_utf8 d)
no_byte_of c d ascii apart =
    All-from_get_or (λ b. eqb b c ≡ false) (encode_utf8 d) 0 (λ i inside. ne_eqb (get_or (encode_utf8 d) i 0) c (λ is.
    apart (inside_one d [] (encode_utf8 d) i (sym (append-nil (encode_utf8 d))) inside (rw is ascii) ∙ is)))

-- the pieces of a text are the texts of its characters' pieces
pub split_encodes : (c : ℕ) (cs : List ℕ) → c < 128 → slice_split (at_byte c) (encode_utf8_all cs) ≡ map encode_utf8_all (slice_split (at_byte c) cs)
split_encodes c [] ascii = refl
split_encodes c (d ∷ cs) ascii = by_case (split_encodes c cs ascii) (some_piece c cs) (cases_Bool (eqb d c))
  where
    by_case : slice_split (at_byte c) (encode_utf8_all cs) ≡ map encode_utf8_all (slice_split (at_byte c) cs)
        → ((piece : List ℕ) × (pieces : List (List ℕ)) × (slice_split (at_byte c) cs ≡ piece ∷ pieces))
        → (eqb d c ≡ true) ⊎ (eqb d c ≡ false) → slice_split (at_byte c) (encode_utf8_all (d ∷ cs)) ≡ map encode_utf8_all (slice_split (at_byte c) (d ∷ cs))
    by_case rest some (inl here) =
        let is = eqb-true d c here in
        ap (λ t. slice_split (at_byte c) (t ++ encode_utf8_all cs)) (encode_ascii d (rw is ascii)) ∙ cond-true _ _ _ here
        ∙ ap (λ l. [] ∷ l) rest ∙ sym (ap (map encode_utf8_all) (cond-true _ _ _ here))
    by_case rest (piece, pieces, is) (inr after) =
        let apart = λ (e : d ≡ c). both_ways (eqb d c) after (eq-eqb d c e) in
        split_front c (encode_utf8 d) (encode_utf8_all cs) (no_byte_of c d ascii apart)
        ∙ ap (onto_pieces (encode_utf8 d)) (rest ∙ ap (map encode_utf8_all) is)
        ∙ onto_some (encode_utf8 d) (encode_utf8_all piece) (map encode_utf8_all pieces)
        ∙ sym (ap (map encode_utf8_all) (cond-false _ _ _ after ∙ ap (onto_first d) is))

first_true : (a b : Bool) → (a && b) ≡ true → a ≡ true
first_true true b is = refl
first_true false b is = absurd (cc)

both_are : (a b : Bool) → a ≡ true → b ≡ true → (a && b) ≡ true
both_are a b is also = (λ i. is i && also i)

-- what holds of each character of a text holds in each piece
parts_of_scalars : (c : ℕ) (cs : List ℕ) → all_scalars cs ≡ true → AllByRecursion (λ part. all_scalars part ≡ true) (slice_split (at_byte c) cs)
parts_of_scalars c [] are = (refl, tt)
parts_of_scalars c (d ∷ cs) are = by_case (parts_of_scalars c cs (second_true (scalar d) (all_scalars cs) are)) (some_piece c cs) (cases_Bool (eqb d c))
  where
    by_case : AllByRecursion (λ part. all_scalars part ≡ true) (slice_split (at_byte c) cs)
        → ((piece : List ℕ) × (pieces : List (List ℕ)) × (slice_split (at_byte c) cs ≡ piece ∷ pieces))
        → (eqb d c ≡ true) ⊎ (eqb d c ≡ false) → AllByRecursion (λ part. all_scalars part ≡ true) (slice_split (at_byte c) (d ∷ cs))
    by_case rest some (inl here) = subst (AllByRecursion (λ part. all_scalars part ≡ true)) (sym (cond-true _ _ _ here)) (refl, rest)
    by_case rest (piece, pieces, is) (inr after) =
        let known : AllByRecursion (λ part. all_scalars part ≡ true) (piece ∷ pieces) = subst (AllByRecursion (λ part. all_scalars part ≡ true)) is rest in
        subst (AllByRecursion (λ part. all_scalars part ≡ true)) (sym (cond-false _ _ _ after ∙ ap (onto_first d) is))
        (both_are (scalar d) (all_scalars piece) (first_true (scalar d) (all_scalars cs) are) known.0, known.1)

-- ---- trimming

-- no white space stands around
record IsTight (cs : List ℕ) : Type 0 where
  front : skip_leading_whitespace cs ≡ cs
  back : drop_trailing_whitespace cs ≡ cs

skipped_le : (cs : List ℕ) → length (skip_leading_whitespace cs) ≤ length cs
skipped_le [] = omega arith
skipped_le (c ∷ cs) =
    let rest = skipped_le cs in
    cond_both (is_whitespace c) (skip_leading_whitespace cs) (c ∷ cs) (λ l. length l ≤ length (c ∷ cs)) (λ _. omega arith) (λ _. omega arith)

dropped_le : (cs : List ℕ) → length (drop_trailing_whitespace cs) ≤ length cs
dropped_le [] = omega arith
dropped_le (c ∷ cs) =
    let rest = dropped_le cs in
    cond_both (is_whitespace c && eqb (length (drop_trailing_whitespace cs)) 0) [] (c ∷ drop_trailing_whitespace cs) (λ l. length l ≤ length (c ∷ cs)) (λ _. omega arith) (λ _. omega arith)

-- a text of which nothing is skipped begins with no white space
no_white_first : (c : ℕ) (cs : List ℕ) → skip_leading_whitespace (c ∷ cs) ≡ c ∷ cs → is_whitespace c ≡ false
no_white_first c cs is =
    false_from_ne_true (is_whitespace c) (λ white.
    let less = skipped_le cs in
    let same : length (skip_leading_whitespace cs) ≡ length (c ∷ cs) = ap length (sym (cond-true _ _ _ white) ∙ is) in absurd (omega arith))

whole_skipped : (cs : List ℕ) → length (skip_leading_whitespace cs) ≡ length cs → skip_leading_whitespace cs ≡ cs
whole_skipped [] is = refl
whole_skipped (c ∷ cs) is =
    ⊎_elim
    (λ white. let less = skipped_le cs in let same : length (skip_leading_whitespace cs) ≡ length (c ∷ cs) = ap length (sym (cond-true _ _ _ white)) ∙ is in absurd (omega arith))
    (λ other. cond-false _ _ _ other)
    (cases_Bool (is_whitespace c))

tight_from_trimmed : (cs : List ℕ) → trimmed_chars cs ≡ cs → IsTight cs
tight_from_trimmed cs is =
    let front : skip_leading_whitespace cs ≡ cs =
    let less = skipped_le cs in
    let fewer = dropped_le (skip_leading_whitespace cs) in
    let all : length (trimmed_chars cs) ≡ length cs = ap length is in whole_skipped cs (omega arith) in
    record { front = front; back = ap drop_trailing_whitespace (sym front) ∙ is }

-- after some characters nothing more is dropped
dropped_after : (xs ys : List ℕ) → 0 < length ys → drop_trailing_whitespace ys ≡ ys → drop_trailing_whitespace (xs ++ ys) ≡ xs ++ ys
dropped_after [] ys some is = is
dropped_after (x ∷ xs) ys some is =
    let rest = dropped_after xs ys some is in
    let more : length (drop_trailing_whitespace (xs ++ ys)) ≡ length xs + length ys = ap length rest ∙ length-append xs ys in
    cond-false _ _ _ (and_right (is_whitespace x) (eqb (length (drop_trailing_whitespace (xs ++ ys))) 0) (ne_eqb (length (drop_trailing_whitespace (xs ++ ys))) 0 (λ none. absurd (omega arith))))
    ∙ ap (λ l. x ∷ l) rest

skipped_front : (c : ℕ) (part rest : List ℕ) → is_whitespace c ≡ false → skip_leading_whitespace part ≡ part → skip_leading_whitespace (part ++ c ∷ rest) ≡ part ++ c ∷ rest
skipped_front c [] rest visible is = cond-false _ _ _ visible
skipped_front c (d ∷ part) rest visible is = cond-false _ _ _ (no_white_first d part is)

joined_back : (c : ℕ) (parts : List (List ℕ)) → is_whitespace c ≡ false → AllByRecursion IsTight parts → drop_trailing_whitespace (join_with_byte c parts) ≡ join_with_byte c parts
joined_back c [] visible are = refl
joined_back c (part ∷ []) visible are = are.0.back
joined_back c (part ∷ next ∷ more) visible are =
    let rest = join_with_byte c (next ∷ more) in
    dropped_after part (c ∷ rest) (omega arith)
    (cond-false _ _ _ (ap (λ b. b && eqb (length (drop_trailing_whitespace rest)) 0) visible) ∙ ap (λ l. c ∷ l) (joined_back c (next ∷ more) visible are.1))

joined_front : (c : ℕ) (parts : List (List ℕ)) → is_whitespace c ≡ false → AllByRecursion IsTight parts → skip_leading_whitespace (join_with_byte c parts) ≡ join_with_byte c parts
joined_front c [] visible are = refl
joined_front c (part ∷ []) visible are = are.0.front
joined_front c (part ∷ next ∷ more) visible are = skipped_front c part (join_with_byte c (next ∷ more)) visible are.0.front

-- a text that is its own trim
tight_part : (part : List ℕ) → all_scalars part ≡ true → trim (encode_utf8_all part) ≡ encode_utf8_all part → IsTight part
tight_part part are is =
    tight_from_trimmed part (encodes_same (trimmed_chars part) part
    (ap (λ l. encode_utf8_all (trimmed_chars l)) (sym (chars-encodes part are)) ∙ sym (trim_is (encode_utf8_all part) (part, (are, refl))) ∙ is))

tight_parts : (parts : List (List ℕ)) → AllByRecursion (λ part. all_scalars part ≡ true) parts → All (λ piece. trim piece ≡ piece) (map encode_utf8_all parts) → AllByRecursion IsTight parts
tight_parts [] are is = tt
tight_parts (part ∷ more) are is =
    (tight_part part are.0 (All-head (λ piece. trim piece ≡ piece) _ _ is), tight_parts more are.1 (All-tail (λ piece. trim piece ≡ piece) _ _ is))

-- where each piece between characters that are no white space is its own trim, so is the whole text
pub trim_pieces : (c : ℕ) (bs : List ℕ) → c < 128 → is_whitespace c ≡ false → IsUtf8 bs → All (λ piece. trim piece ≡ piece) (slice_split (at_byte c) bs) → trim bs ≡ bs
trim_pieces c bs ascii visible (cs, (are, is)) tight =
    let pieces = ap (slice_split (at_byte c)) (sym is) ∙ split_encodes c cs ascii in
    let parts = tight_parts (slice_split (at_byte c) cs) (parts_of_scalars c cs are) (subst (All (λ piece. trim piece ≡ piece)) pieces tight) in
    let whole = join_with_byte-slice_split c cs in
    let front = subst (λ l. skip_leading_whitespace l ≡ l) whole (joined_front c (slice_split (at_byte c) cs) visible parts) in
    let back = subst (λ l. drop_trailing_whitespace l ≡ l) whole (joined_back c (slice_split (at_byte c) cs) visible parts) in
    trim_is bs (cs, (are, is))
    ∙ ap (λ l. encode_utf8_all (trimmed_chars l)) (ap chars (sym is) ∙ chars-encodes cs are)
    ∙ ap encode_utf8_all (ap drop_trailing_whitespace front ∙ back) ∙ is

-- each piece of a text is a text
encoded_parts_are_texts : (parts : List (List ℕ)) → AllByRecursion (λ part. all_scalars part ≡ true) parts → All IsUtf8 (map encode_utf8_all parts)
encoded_parts_are_texts [] are = All-nil IsUtf8
encoded_parts_are_texts (part ∷ more) are = All-cons IsUtf8 (encode_utf8_all part) (map encode_utf8_all more) (part, (are.0, refl)) (encoded_parts_are_texts more are.1)

pub pieces_are_texts : (c : ℕ) (bs : List ℕ) → c < 128 → IsUtf8 bs → All IsUtf8 (slice_split (at_byte c) bs)
pieces_are_texts c bs ascii (cs, (are, is)) =
    subst (All IsUtf8) (sym (ap (slice_split (at_byte c)) (sym is) ∙ split_encodes c cs ascii)) (encoded_parts_are_texts (slice_split (at_byte c) cs) (parts_of_scalars c cs are))

-- ---- bytes

one : (a : ℕ) → a < 256 → All (λ b. b < 256) (a ∷ [])
one a small = All-cons (λ b. b < 256) a [] small (All-nil (λ b. b < 256))

scalar_small : (c : ℕ) → scalar c ≡ true → c < 1114112
scalar_small c is = ⊎_elim (λ low. omega arith) (λ high. omega (arith, high.1)) (scalar_cases c is)

-- a character is written in bytes
encoded_small : (c : ℕ) → scalar c ≡ true → All (λ b. b < 256) (encode c)
unfolding encode
encoded_small c is =
    let small = scalar_small c is in
    let first : List ℕ = (128 + c % 64) ∷ [] in
    let second : List ℕ = (128 + c / 64 % 64) ∷ first in
    let third : List ℕ = (128 + c / 4096 % 64) ∷ second in
    let one_more = one (128 + c % 64) (omega arith) in
    let two_more = All-cons (λ b. b < 256) (128 + c / 64 % 64) first (omega arith) one_more in
    let three_more = All-cons (λ b. b < 256) (128 + c / 4096 % 64) second (omega arith) two_more in
    cond_both (ltb c 128) _ _ (All (λ b. b < 256)) (λ below. one c (let low = ltb-true c 128 below in omega arith)) (λ _.
    cond_both (ltb c 2048) _ _ (All (λ b. b < 256)) (λ below. let low = ltb-true c 2048 below in All-cons (λ b. b < 256) (192 + c / 64) first (omega arith) one_more) (λ _.
    cond_both (ltb c 65536) _ _ (All (λ b. b < 256)) (λ below. let low = ltb-true c 65536 below in All-cons (λ b. b < 256) (224 + c / 4096) second (omega arith) two_more)
    (λ _. All-cons (λ b. b < 256) (240 + c / 262144) third (omega arith) three_more)))

chars_small : (cs : List ℕ) → all_scalars cs ≡ true → All (λ b. b < 256) (encode_utf8_all cs)
chars_small [] are = All-nil (λ b. b < 256)
chars_small (c ∷ cs) are =
    All-append (λ b. b < 256) (encode c) (encode_utf8_all cs) (encoded_small c (first_true (scalar c) (all_scalars cs) are)) (chars_small cs (second_true (scalar c) (all_scalars cs) are))

-- a text is bytes
pub text_bytes : (bs : List ℕ) → IsUtf8 bs → All (λ b. b < 256) bs
text_bytes bs (cs, (are, is)) = subst (All (λ b. b < 256)) is (chars_small cs are)
