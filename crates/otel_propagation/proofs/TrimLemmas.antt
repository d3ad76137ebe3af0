-- What trimming does to the characters of a text.
use Rattle.std.proofs.Common.{◌≡◌, ℕ, ◌≤◌, Bool, true, false, ◌&&◌, eqb, List, [], ◌∷◌, length, refl, ap, arith, length-append}
use Rattle.std.specs.Char.{is_whitespace}
use Rattle.std.specs.Str.{IsUtf8, chars, all_scalars, encode_utf8_all, skip_leading_whitespace, drop_trailing_whitespace, trim, trim_start, trim_end}
use Rattle.std.specs.Char.{encode_utf8}
use Rattle.std.proofs.lemmas.Bool.{cond_both}
use Rattle.std.proofs.lemmas.Str.{chars-encodes, encodes-chars, scalars-chars}

-- the characters of a text without the white space around it
abbrev pub trimmed_chars : List ℕ → List ℕ
trimmed_chars cs = drop_trailing_whitespace (skip_leading_whitespace cs)

pub second_true : (a b : Bool) → (a && b) ≡ true → b ≡ true
second_true true b is = is
second_true false b is = absurd (cc)

skipped_scalars : (cs : List ℕ) → all_scalars cs ≡ true → all_scalars (skip_leading_whitespace cs) ≡ true
skipped_scalars [] is = refl
skipped_scalars (c ∷ cs) is = cond_both (is_whitespace c) (skip_leading_whitespace cs) (c ∷ cs) (λ l. all_scalars l ≡ true) (λ _. skipped_scalars cs (second_true _ (all_scalars cs) is)) (λ _. is)

-- a text trimmed is its characters trimmed
pub trim_is : (bs : List ℕ) → IsUtf8 bs → trim bs ≡ encode_utf8_all (trimmed_chars (chars bs))
unfolding trim_start trim_end
trim_is bs is =
    ap (λ l. encode_utf8_all (drop_trailing_whitespace l)) (chars-encodes (skip_leading_whitespace (chars bs)) (skipped_scalars (chars bs) (scalars-chars bs is)))

skipped_length : (cs : List ℕ) → length (encode_utf8_all (skip_leading_whitespace cs)) ≤ length (encode_utf8_all cs)
skipped_length [] = omega arith
skipped_length (c ∷ cs) =
    let rest = skipped_length cs in
    let more = length-append (encode_utf8 c) (encode_utf8_all cs) in
    cond_both (is_whitespace c) (skip_leading_whitespace cs) (c ∷ cs) (λ l. length (encode_utf8_all l) ≤ length (encode_utf8_all (c ∷ cs))) (λ _. omega arith) (λ _. omega arith)

dropped_length : (cs : List ℕ) → length (encode_utf8_all (drop_trailing_whitespace cs)) ≤ length (encode_utf8_all cs)
dropped_length [] = omega arith
dropped_length (c ∷ cs) =
    let rest = dropped_length cs in
    let more = length-append (encode_utf8 c) (encode_utf8_all cs) in
    let less = length-append (encode_utf8 c) (encode_utf8_all (drop_trailing_whitespace cs)) in
    cond_both (is_whitespace c && eqb (length (drop_trailing_whitespace cs)) 0) [] (c ∷ drop_trailing_whitespace cs) (λ l. length (encode_utf8_all l) ≤ length (encode_utf8_all (c ∷ cs))) (λ _. omega arith) (λ _. omega arith)

-- a text is no longer when it is trimmed
pub length-trim : (bs : List ℕ) → IsUtf8 bs → length (trim bs) ≤ length bs
length-trim bs is =
    let cs = chars bs in
    let front = skipped_length cs in
    let back = dropped_length (skip_leading_whitespace cs) in
    let all : length (encode_utf8_all cs) ≡ length bs = ap length (encodes-chars bs is) in
    rw (trim_is bs is) (omega arith)
