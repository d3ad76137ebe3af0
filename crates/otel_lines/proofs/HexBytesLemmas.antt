-- The hexadecimal digits of bytes, by the table and as texts of ids.
use Rattle.std.proofs.Common.{◌≡◌, ℕ, zero, suc, ◌+◌, ◌-◌, ◌*◌, ◌/◌, ◌%◌, ◌<◌, ◌^◌, ◌++◌, Bool, true, ◌&&◌, T, eqb, get_or, arith, eq-zero-or-pos, eqb→eq, inl, inr, List, [], ◌∷◌, length, refl, ap, ◌∙◌, sym, append-nil, append_assoc}
use Rattle.std.proofs.Math.Nat.{pow-suc, div-div-eq-div-mul}
use Rattle.std.specs.Str.{IsAscii}
use Rattle.std.proofs.lemmas.Str.Ascii.{IsAscii-nil, IsAscii-cons}
use Rattle.otel_lines.specs.HexBytes.{bytes_text}
use lib.Ieee.Fits.{and_l, and_r}
use Rattle.std.specs.Int.{bytes_high_first, byte_at, to_be_bytes, w64, w128}
use Rattle.opentelemetry.specs.Hex.{hex_digit, hex_text}
use Rattle.otel_lines.specs.declared.digits.TheConstants.{BYTES}

-- the table has the digits of each number below
abbrev are_digits : ℕ → Bool
are_digits zero = true
are_digits (suc p) = (eqb (get_or BYTES (p * 2) 0) (hex_digit (p / 16)) && eqb (get_or BYTES (p * 2 + 1) 0) (hex_digit (p % 16))) && are_digits p

below : (n p : ℕ) → T (are_digits n) → p < n → (get_or BYTES (p * 2) 0 ≡ hex_digit (p / 16)) × (get_or BYTES (p * 2 + 1) 0 ≡ hex_digit (p % 16))
below zero p t h = absurd (omega arith)
below (suc n) p t h =
    elim (eq-zero-or-pos (n - p)) [
      | inl z ↦ let e : p ≡ n = omega arith in let a = and_l _ (are_digits n) t in rw e (eqb→eq _ _ (and_l _ _ a), eqb→eq _ _ (and_r _ _ a))
      | inr g ↦ below n p (and_r _ (are_digits n) t) (omega arith)
    ]

pub BYTES_at : (p : ℕ) → p < 256 → (get_or BYTES (p * 2) 0 ≡ hex_digit (p / 16)) × (get_or BYTES (p * 2 + 1) 0 ≡ hex_digit (p % 16))
BYTES_at p h = below 256 p tt h

pub digit_below_128 : (d : ℕ) → d < 16 → hex_digit d < 128
digit_below_128 d h = grind arith

pub length_bytes_text : (bytes : List ℕ) → length (bytes_text bytes) ≡ 2 * length bytes
length_bytes_text [] = refl
length_bytes_text (byte ∷ bytes) = omega (arith, length_bytes_text bytes)

pub IsAscii_bytes_text : (bytes : List ℕ) → ((i : ℕ) → get_or bytes i 0 < 256) → IsAscii (bytes_text bytes)
IsAscii_bytes_text [] small = IsAscii-nil
IsAscii_bytes_text (byte ∷ bytes) small =
    let back = IsAscii-cons (hex_digit (byte % 16)) (bytes_text bytes) (digit_below_128 (byte % 16) (omega arith)) (IsAscii_bytes_text bytes (λ i. small (suc i))) in
    IsAscii-cons (hex_digit (byte / 16)) (hex_digit (byte % 16) ∷ bytes_text bytes) (digit_below_128 (byte / 16) (omega (arith, small 0))) back

-- the digits of a number, parted after the first ones
hex_text_parts : (j k n : ℕ) → hex_text (j + k) n ≡ hex_text j (n / 16 ^ k) ++ hex_text k n
unfolding hex_text
hex_text_parts j zero n =
    let count : j + 0 ≡ j = omega arith in
    let number : n ≡ n / 16 ^ 0 = omega arith in
    ap (λ i. hex_text i n) count ∙ ap (λ m. hex_text j m) number ∙ sym (append-nil (hex_text j (n / 16 ^ 0)))
hex_text_parts j (suc k) n =
    let last = hex_digit (n % 16) ∷ [] in
    let count : j + suc k ≡ suc (j + k) = omega arith in
    let power : 16 * 16 ^ k ≡ 16 ^ suc k = omega (arith, pow-suc 16 k) in
    let number : n / 16 / 16 ^ k ≡ n / 16 ^ suc k = div-div-eq-div-mul n 16 (16 ^ k) ∙ ap (λ p. n / p) power in
    ap (λ i. hex_text i n) count ∙ ap (λ t. t ++ last) (hex_text_parts j k (n / 16))
    ∙ append_assoc (hex_text j (n / 16 / 16 ^ k)) (hex_text k (n / 16)) last
    ∙ ap (λ m. hex_text j m ++ (hex_text k (n / 16) ++ last)) number

-- a byte is two digits
power_of_bytes : (k : ℕ) → 256 ^ k ≡ 16 ^ (2 * k)
power_of_bytes zero = refl
power_of_bytes (suc k) =
    let count : 2 * suc k ≡ suc (suc (2 * k)) = omega arith in
    rw count (omega (arith, power_of_bytes k, pow-suc 256 k, pow-suc 16 (suc (2 * k)), pow-suc 16 (2 * k)))

byte_of_digits : (k n : ℕ) → byte_at k n ≡ n / 16 ^ (2 * k) % 256
byte_of_digits zero n = omega arith
byte_of_digits (suc k) n = ap (λ p. n / p % 256) (power_of_bytes (suc k))

-- the bytes of a number give its digits
text_of_bytes : (k n : ℕ) → bytes_text (bytes_high_first k n) ≡ hex_text (2 * k) n
unfolding hex_text
text_of_bytes zero n = refl
text_of_bytes (suc k) n =
    let m = n / 16 ^ (2 * k) in
    let byte = byte_of_digits k n in
    let high : byte_at k n / 16 ≡ m / 16 % 16 = omega arith in
    let low : byte_at k n % 16 ≡ m % 16 = omega arith in
    let count : 2 + 2 * k ≡ 2 * suc k = omega arith in
    ap (λ d. hex_digit d ∷ hex_digit (byte_at k n % 16) ∷ bytes_text (bytes_high_first k n)) high
    ∙ ap (λ d. hex_digit (m / 16 % 16) ∷ hex_digit d ∷ bytes_text (bytes_high_first k n)) low
    ∙ ap (λ t. hex_digit (m / 16 % 16) ∷ hex_digit (m % 16) ∷ t) (text_of_bytes k n)
    ∙ sym (hex_text_parts 2 (2 * k) n) ∙ ap (λ i. hex_text i n) count

pub text_of_trace_id : (n : ℕ) → bytes_text (to_be_bytes w128 n) ≡ hex_text 32 n
text_of_trace_id n = text_of_bytes 16 n

pub text_of_span_id : (n : ℕ) → bytes_text (to_be_bytes w64 n) ≡ hex_text 16 n
text_of_span_id n = text_of_bytes 8 n

pub text_of_flags : (n : ℕ) → n < 256 → bytes_text (n ∷ []) ≡ hex_text 2 n
unfolding hex_text
text_of_flags n small =
    let high : n / 16 ≡ n / 16 % 16 = omega arith in
    ap (λ d. hex_digit d ∷ hex_digit (n % 16) ∷ []) high
