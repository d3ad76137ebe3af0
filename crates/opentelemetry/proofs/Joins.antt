-- Texts joined by a byte.
use Rattle.std.proofs.Common.{◌≡◌, ℕ, ◌+◌, ◌<◌, List, [], ◌∷◌, ◌++◌, length, take, get_or, map, ltb, cond, refl, sym, ap, ◌∙◌, arith, append_assoc}
use Rattle.std.proofs.lemmas.List.{take_more, length-take-le, length-map, map-append}
use Rattle.std.specs.List.{join_with_byte}
use borrow.Author.Tests.{lt-ltb}

-- after others a text has the byte in front
abbrev pub joined_text : ℕ → ℕ → List ℕ → List ℕ
joined_text byte before t = cond (ltb 0 before) (byte ∷ t) t

joined_text_more : (byte n : ℕ) (t : List ℕ) → 0 < n → joined_text byte n t ≡ byte ∷ t
joined_text_more byte n t some = ap (λ b. cond b (byte ∷ t) t) (lt-ltb 0 n some)

-- one more text at the end
pub join_push : (byte : ℕ) (xs : List (List ℕ)) (x : List ℕ) → join_with_byte byte (xs ++ x ∷ []) ≡ join_with_byte byte xs ++ joined_text byte (length xs) x
join_push byte [] x = refl
join_push byte (y ∷ []) x = refl
join_push byte (y ∷ z ∷ xs) x =
    let after = joined_text_more byte (length (z ∷ xs)) x (omega arith) in
    ap (λ t. y ++ byte ∷ t) (join_push byte (z ∷ xs) x) ∙ sym (append_assoc y (byte ∷ join_with_byte byte (z ∷ xs)) (joined_text byte (length (z ∷ xs)) x))
    ∙ ap (λ t. (y ++ byte ∷ join_with_byte byte (z ∷ xs)) ++ t) (after ∙ sym (joined_text_more byte (length (y ∷ z ∷ xs)) x (omega arith)))

-- the texts of the first elements, and then that of the next
pub join_more : {X : Type 0} (byte : ℕ) (t : X → List ℕ) (xs : List X) (i : ℕ) (x : X) → i < length xs → x ≡ get_or xs i x
    → join_with_byte byte (map t (take i xs)) ++ joined_text byte i (t x) ≡ join_with_byte byte (map t (take (i + 1) xs))
join_more byte t xs i x inside is =
    let count : length (map t (take i xs)) ≡ i = length-map (take i xs) t ∙ length-take-le i xs (omega arith) in
    ap (λ n. join_with_byte byte (map t (take i xs)) ++ joined_text byte n (t x)) (sym count)
    ∙ sym (join_push byte (map t (take i xs)) (t x))
    ∙ ap (λ l. join_with_byte byte l) (sym (map-append t (take i xs) (x ∷ [])))
    ∙ ap (λ y. join_with_byte byte (map t (take i xs ++ y ∷ []))) is
    ∙ ap (λ l. join_with_byte byte (map t l)) (sym (take_more xs i x inside))
