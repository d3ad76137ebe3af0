-- Reading a number back from its hexadecimal text.
use Rattle.std.proofs.Common.{◌≡◌, ℕ, zero, suc, ◌+◌, ◌*◌, ◌/◌, ◌%◌, ◌^◌, ◌<◌, ◌≤◌, List, [], ◌∷◌, ◌++◌, length, get_or, cond, refl, sym, ap, ◌∙◌, arith, ⊎_elim, inl, inr, subst, length-append, add-one}
use Rattle.std.proofs.Math.Nat.{pow-suc, pow-le-pow_right}
use Rattle.std.proofs.lemmas.Bool.{cases_lt}
use Rattle.std.proofs.lemmas.List.Elements.{All-nil, All-push}
use borrow.Author.Tests.{lt-ltb, le-ltb}
use Rattle.opentelemetry.specs.Hex.{hex_text, hex_digit, IsHexDigit, IsHexText}

-- a digit more still fits 128 bits
pub hex_room : (i count n : ℕ) → n < 16 ^ i → i < count → count ≤ 32 → n * 16 + 15 < 2 ^ 128
hex_room i count n small below most =
    let positive : 0 < 16 = omega arith in
    let next : suc i ≤ 32 = omega arith in
    let grown : 16 ^ suc i ≡ 16 ^ i * 16 = pow-suc 16 i in
    let bound : 16 ^ suc i ≤ 16 ^ 32 = pow-le-pow_right positive next in
    omega arith

-- with a digit more, the number stays below the next power
pub hex_fits_more : (i n d : ℕ) → n < 16 ^ i → d < 16 → n * 16 + d < 16 ^ (i + 1)
hex_fits_more i n d small digit = rw add-one (omega (arith, pow-suc 16 i))

-- the text with a digit more
pub hex_text_push : (i n d : ℕ) → d < 16 → hex_text (i + 1) (n * 16 + d) ≡ hex_text i n ++ hex_digit d ∷ []
unfolding hex_text
hex_text_push i n d small =
    let front : (n * 16 + d) / 16 ≡ n = omega arith in
    let back : (n * 16 + d) % 16 ≡ d = omega arith in
    ap (λ k. hex_text k (n * 16 + d)) (add-one i) ∙ ap (λ m. hex_text i m ++ hex_digit ((n * 16 + d) % 16) ∷ []) front ∙ ap (λ e. hex_text i n ++ hex_digit e ∷ []) back

-- the digits below sixteen are digits
pub digit_IsHexDigit : (d : ℕ) → d < 16 → IsHexDigit (hex_digit d)
digit_IsHexDigit d small =
    ⊎_elim
    (λ low. subst (λ b. IsHexDigit (cond b (48 + d) (87 + d))) (sym (lt-ltb d 10 low)) (inl (omega arith, omega arith)))
    (λ high. subst (λ b. IsHexDigit (cond b (48 + d) (87 + d))) (sym (le-ltb d 10 high)) (inr (omega arith, omega arith)))
    (cases_lt d 10)

-- different digits are written differently
hex_digit_injective : (d e : ℕ) → hex_digit d ≡ hex_digit e → d < 16 → e < 16 → d ≡ e
hex_digit_injective d e same small smaller = grind arith

-- the text of a number is made of digits, so many as asked for
pub hex_text_IsHexText : (k n : ℕ) → IsHexText k (hex_text k n)
unfolding hex_text
hex_text_IsHexText zero n = (refl, All-nil IsHexDigit)
hex_text_IsHexText (suc k) n =
    let rest = hex_text_IsHexText k (n / 16) in
    (omega (arith, length-append (hex_text k (n / 16)) (hex_digit (n % 16) ∷ []), rest.0), All-push IsHexDigit (hex_text k (n / 16)) (hex_digit (n % 16)) rest.1 (digit_IsHexDigit (n % 16) (omega arith)))

-- lists of one length with an element more at the end are the same part by part
push_same : (xs ys : List ℕ) (x y : ℕ) → length xs ≡ length ys → xs ++ x ∷ [] ≡ ys ++ y ∷ [] → (xs ≡ ys) × (x ≡ y)
push_same [] [] x y long same = (refl, cc)
push_same [] (b ∷ ys) x y long same = absurd (omega arith)
push_same (a ∷ xs) [] x y long same = absurd (omega arith)
push_same (a ∷ xs) (b ∷ ys) x y long same =
    let tails : xs ++ x ∷ [] ≡ ys ++ y ∷ [] = cc in
    let rest = push_same xs ys x y (omega arith) tails in
    let heads : a ≡ b = cc in
    let lists : xs ≡ ys = rest.0 in
    (cc, rest.1)

-- numbers with the same text are the same
pub hex_text_injective : (k m n : ℕ) → m < 16 ^ k → n < 16 ^ k → hex_text k m ≡ hex_text k n → m ≡ n
unfolding hex_text
hex_text_injective zero m n small smaller same = omega arith
hex_text_injective (suc k) m n small smaller same =
    let parts = push_same (hex_text k (m / 16)) (hex_text k (n / 16)) (hex_digit (m % 16)) (hex_digit (n % 16)) ((hex_text_IsHexText k (m / 16)).0 ∙ sym (hex_text_IsHexText k (n / 16)).0) same in
    let fronts : m / 16 ≡ n / 16 = hex_text_injective k (m / 16) (n / 16) (omega (arith, pow-suc 16 k)) (omega (arith, pow-suc 16 k)) parts.0 in
    let backs : m % 16 ≡ n % 16 = hex_digit_injective (m % 16) (n % 16) parts.1 (omega arith) (omega arith) in
    omega arith

-- a text that spells no digits is no text of digits
pub not_hex : (text : List ℕ) (count i : ℕ) → i < length text → (IsHexDigit (get_or text i 0) → ⊥) → IsHexText count text → ⊥
not_hex text count i inside bad is = bad (is.1 i 0 inside)
