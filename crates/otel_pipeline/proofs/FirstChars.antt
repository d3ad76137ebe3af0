-- The first characters of a text.
use Rattle.std.proofs.Common.{◌≡◌, ℕ, zero, suc, ◌+◌, ◌-◌, ◌<◌, ◌≤◌, ◌&&◌, true, List, [], ◌∷◌, ◌++◌, take, drop, get_or, length, refl, sym, ap, ◌∙◌, arith, append-nil, length-append}
use lib.Utf8.{scalar}
use Rattle.std.specs.Char.{encode_utf8}
use Rattle.std.specs.Str.{IsUtf8, IsCharBoundary, all_scalars, chars, encode_utf8_all}
use Rattle.std.proofs.lemmas.Bool.{and_parts}
use Rattle.std.proofs.lemmas.List.{length-take, take-append-drop, take-append-le, take_all, take_more}
use Rattle.std.proofs.lemmas.Str.{encodes-append, encodes-chars, scalars-chars, chars-append, chars-encodes, length-le-encodes, IsCharBoundary-at_seam}
use Rattle.std.proofs.Math.Seq.{take-append-add}
use Rattle.otel_pipeline.specs.ValueLength.{first_chars}

-- a part of a list of characters is one
scalars-cons : (c : ℕ) (cs : List ℕ) → scalar c ≡ true → all_scalars cs ≡ true → all_scalars (c ∷ cs) ≡ true
scalars-cons c cs h k = ap (λ b. b && all_scalars cs) h ∙ k

scalars-take : (n : ℕ) (cs : List ℕ) → all_scalars cs ≡ true → all_scalars (take n cs) ≡ true
scalars-take zero cs h = refl
scalars-take (suc n) [] h = refl
scalars-take (suc n) (c ∷ cs) h = scalars-cons c (take n cs) (and_parts _ _ h).0 (scalars-take n cs (and_parts _ _ h).1)

scalars-drop : (n : ℕ) (cs : List ℕ) → all_scalars cs ≡ true → all_scalars (drop n cs) ≡ true
scalars-drop zero cs h = h
scalars-drop (suc n) [] h = refl
scalars-drop (suc n) (c ∷ cs) h = scalars-drop n cs (and_parts _ _ h).1

-- a text is its first characters and the others
pub in_two : (text : List ℕ) (n : ℕ) → IsUtf8 text → text ≡ first_chars n text ++ encode_utf8_all (drop n (chars text))
in_two text n is =
    sym (encodes-chars text is) ∙ ap encode_utf8_all (sym (take-append-drop n (chars text)))
    ∙ encodes-append (take n (chars text)) (drop n (chars text))

-- both are texts
pub front-IsUtf8 : (text : List ℕ) (n : ℕ) → IsUtf8 text → IsUtf8 (first_chars n text)
front-IsUtf8 text n is = (take n (chars text), (scalars-take n (chars text) (scalars-chars text is), refl))

-- so a text may be cut there
pub cut_there : (text : List ℕ) (n : ℕ) → IsUtf8 text → IsCharBoundary text (length (first_chars n text))
cut_there text n is =
    IsCharBoundary-at_seam text (first_chars n text) (encode_utf8_all (drop n (chars text))) (in_two text n is)
    (drop n (chars text), (scalars-drop n (chars text) (scalars-chars text is), refl))

-- what is cut there are the first characters
pub cut_is : (text : List ℕ) (n : ℕ) → IsUtf8 text → take (length (first_chars n text)) text ≡ first_chars n text
cut_is text n is =
    let front : List ℕ = first_chars n text in let back : List ℕ = encode_utf8_all (drop n (chars text)) in
    ap (take (length front)) (in_two text n is) ∙ take-append-le (length front) front back (omega arith)
    ∙ take_all (length front) front (omega arith)

-- a text of few bytes has few characters, since each takes a byte at least
pub short_stays : (text : List ℕ) (n : ℕ) → IsUtf8 text → length text ≤ n → text ≡ first_chars n text
short_stays text n is few =
    let same : encode_utf8_all (chars text) ≡ text = encodes-chars text is in
    let bound : length (chars text) ≤ n = omega (arith, length-le-encodes (chars text), ap length same) in
    sym same ∙ ap encode_utf8_all (sym (take_all n (chars text) bound))

-- the first characters are at most so many
pub front-within : (text : List ℕ) (n : ℕ) → IsUtf8 text → length (chars (first_chars n text)) ≤ n
front-within text n is =
    let same : chars (first_chars n text) ≡ take n (chars text) = chars-encodes (take n (chars text)) (scalars-take n (chars text) (scalars-chars text is)) in
    omega (arith, ap length same, length-take n (chars text))

-- no longer beginning has so few
pub front-longest : (text front rest : List ℕ) (n : ℕ) → text ≡ front ++ rest → IsUtf8 front → length (chars front) ≤ n → length front ≤ length (first_chars n text)
front-longest text front rest n e is few =
    let more : ℕ = n - length (chars front) in
    let kept : take n (chars text) ≡ chars front ++ take more (chars rest) =
    ap (λ (bs : List ℕ). take n (chars bs)) e ∙ ap (take n) (chars-append front rest is)
    ∙ ap (λ (k : ℕ). take k (chars front ++ chars rest)) (omega arith) ∙ take-append-add (chars front) (chars rest) more in
    let whole : first_chars n text ≡ front ++ encode_utf8_all (take more (chars rest)) =
    ap encode_utf8_all kept ∙ encodes-append (chars front) (take more (chars rest))
    ∙ ap (λ (bs : List ℕ). bs ++ encode_utf8_all (take more (chars rest))) (encodes-chars front is) in
    omega (arith, ap length whole, length-append front (encode_utf8_all (take more (chars rest))))

-- how many bytes a list of characters takes with one more
pub length_more : (cs : List ℕ) (c : ℕ) → length (encode_utf8_all (cs ++ c ∷ [])) ≡ length (encode_utf8_all cs) + length (encode_utf8 c)
length_more cs c = ap length (encodes-append cs (c ∷ []) ∙ ap (λ (bs : List ℕ). encode_utf8_all cs ++ bs) (append-nil (encode_utf8 c))) ∙ length-append (encode_utf8_all cs) (encode_utf8 c)

-- one more of the first characters still lies in the text
pub one_fits : (text so_far : List ℕ) (n c : ℕ) → IsUtf8 text → so_far ≡ take (length so_far) (take n (chars text))
    → (length so_far < length (take n (chars text))) × (c ≡ get_or (take n (chars text)) (length so_far) c)
    → length (encode_utf8_all so_far) + length (encode_utf8 c) ≤ length text
one_fits text so_far n c is front turn =
    let all : List ℕ = take n (chars text) in let k : ℕ = length so_far in
    let more : so_far ++ c ∷ [] ≡ take (k + 1) all = ap (λ (xs : List ℕ). xs ++ c ∷ []) front ∙ ap (λ (x : ℕ). take k all ++ x ∷ []) turn.1 ∙ sym (take_more all k c turn.0) in
    let within : all ≡ (so_far ++ c ∷ []) ++ drop (k + 1) all = sym (take-append-drop (k + 1) all) ∙ ap (λ (xs : List ℕ). xs ++ drop (k + 1) all) (sym more) in
    let whole : length text ≡ length (encode_utf8_all all) + length (encode_utf8_all (drop n (chars text))) = ap length (in_two text n is) ∙ length-append (encode_utf8_all all) (encode_utf8_all (drop n (chars text))) in
    let part : length (encode_utf8_all all) ≡ length (encode_utf8_all (so_far ++ c ∷ [])) + length (encode_utf8_all (drop (k + 1) all)) = ap (λ (xs : List ℕ). length (encode_utf8_all xs)) within ∙ ap length (encodes-append (so_far ++ c ∷ []) (drop (k + 1) all)) ∙ length-append (encode_utf8_all (so_far ++ c ∷ [])) (encode_utf8_all (drop (k + 1) all)) in
    omega (arith, whole, part, length_more so_far c)
