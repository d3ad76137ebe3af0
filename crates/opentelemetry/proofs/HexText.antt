-- That std's formatter writes a number's hexadecimal text.
use Rattle.std.proofs.Common.{◌≡◌, ℕ, zero, suc, ◌+◌, ◌-◌, ◌*◌, ◌/◌, ◌%◌, ◌^◌, ◌<◌, ◌≤◌, List, [], ◌∷◌, ◌++◌, length, replicate, Some, false, cond, refl, sym, ap, ◌∙◌, arith, ⊎_elim, subst, append_assoc, append-nil, length-append}
use Rattle.std.proofs.lemmas.List.{replicate-append-replicate}
use Rattle.std.proofs.lemmas.Bool.{cases_lt}
use Rattle.std.proofs.lemmas.Nat.{and_mask}
use Rattle.std.specs.Prelude.{bit_and}
use borrow.Author.Tests.{ne_eqb, eq-eqb}
use Rattle.std.proofs.Math.Nat.{pow-suc, mul_assoc}
use Rattle.std.specs.Fmt.{digits, digits_onto, char_count, padded_integral, format_spec, digits_output, styled_digits_output, shown_prefix, radix_prefix}
use Rattle.std.specs.Option.{option_map}
use Rattle.opentelemetry.specs.Hex.{hex_text, hex_digit}

-- so many digits zero
abbrev zeros : ℕ → List ℕ
zeros k = replicate k 48

-- one more zero at the end
zeros_push : (k : ℕ) → zeros k ++ zeros 1 ≡ zeros (suc k)
zeros_push k = let e : k + 1 ≡ suc k = omega arith in replicate-append-replicate k 1 48 ∙ ap zeros e

-- the text of zero is all zeros
hex_text-zero : (k : ℕ) → hex_text k 0 ≡ zeros k
unfolding hex_text
hex_text-zero zero = refl
hex_text-zero (suc k) = ap (λ t. t ++ zeros 1) (hex_text-zero k) ∙ zeros_push k

-- a number with a digit in front has room for one
room_left : (k n : ℕ) → 16 ≤ n → n < 16 ^ suc k → 0 < k
room_left zero n large small = absurd (omega arith)
room_left (suc k) n large small = omega arith

-- a quotient by sixteen has one digit fewer
quotient_fits : (k n : ℕ) → n < 16 ^ suc k → n / 16 < 16 ^ k
quotient_fits k n small = omega (arith, pow-suc 16 k)

-- the last digit that is written
last_digit : (i n : ℕ) (acc : List ℕ) → n / 16 ≡ 0 → digits_onto (suc i) 16 false n acc ≡ hex_digit (n % 16) ∷ acc
last_digit i n acc none = ap (λ b. cond b (hex_digit (n % 16) ∷ acc) (digits_onto i 16 false (n / 16) (hex_digit (n % 16) ∷ acc))) (eq-eqb (n / 16) 0 none)

-- a digit with others in front
next_digit : (i n : ℕ) (acc : List ℕ) → (n / 16 ≡ 0 → ⊥) → digits_onto (suc i) 16 false n acc ≡ digits_onto i 16 false (n / 16) (hex_digit (n % 16) ∷ acc)
next_digit i n acc some = ap (λ b. cond b (hex_digit (n % 16) ∷ acc) (digits_onto i 16 false (n / 16) (hex_digit (n % 16) ∷ acc))) (ne_eqb (n / 16) 0 some)

-- these digits, filled up with zeros, are the text
abbrev FillsUp : ℕ → ℕ → ℕ → List ℕ → List ℕ → Type 0
FillsUp k i n acc ds = (digits_onto i 16 false n acc ≡ ds ++ acc) × (length ds ≤ k) × (zeros (k - length ds) ++ ds ≡ hex_text k n)

one_digit : (k i n : ℕ) (acc : List ℕ) → n < 16 → FillsUp (suc k) (suc i) n acc (hex_digit (n % 16) ∷ [])
unfolding hex_text
one_digit k i n acc one =
    let none : n / 16 ≡ 0 = omega arith in
    let left : suc k - 1 ≡ k = omega arith in (
      last_digit i n acc none,
      omega arith,
      ap (λ j. zeros j ++ hex_digit (n % 16) ∷ []) left ∙ ap (λ t. t ++ hex_digit (n % 16) ∷ []) (sym (ap (λ m. hex_text k m) none ∙ hex_text-zero k)),
    )

more_digits : (k i n : ℕ) (acc ds : List ℕ) → 16 ≤ n → FillsUp k i (n / 16) (hex_digit (n % 16) ∷ acc) ds → FillsUp (suc k) (suc i) n acc (ds ++ hex_digit (n % 16) ∷ [])
unfolding hex_text
more_digits k i n acc ds more h =
    let fewer : suc k - length (ds ++ hex_digit (n % 16) ∷ []) ≡ k - length ds = omega (arith, length-append ds (hex_digit (n % 16) ∷ [])) in (
      next_digit i n acc (λ z. omega arith) ∙ h.0 ∙ sym (append_assoc ds (hex_digit (n % 16) ∷ []) acc),
      omega (arith, length-append ds (hex_digit (n % 16) ∷ []), h.1),
      ap (λ j. zeros j ++ (ds ++ hex_digit (n % 16) ∷ [])) fewer
          ∙ sym (append_assoc (zeros (k - length ds)) ds (hex_digit (n % 16) ∷ [])) ∙ ap (λ t. t ++ hex_digit (n % 16) ∷ []) h.2,
    )

padded_digits : (k i n : ℕ) (acc : List ℕ) → n < 16 ^ k → 0 < k → k ≤ i → (ds : List ℕ) × FillsUp k i n acc ds
padded_digits zero i n acc small some fuel = absurd (omega arith)
padded_digits (suc k) zero n acc small some fuel = absurd (omega arith)
padded_digits (suc k) (suc i) n acc small some fuel =
    ⊎_elim
    (λ one. (hex_digit (n % 16) ∷ [], one_digit k i n acc one))
    (λ more.
    let rest = padded_digits k i (n / 16) (hex_digit (n % 16) ∷ acc) (quotient_fits k n small) (room_left k n more small) (omega arith) in
    (rest.0 ++ hex_digit (n % 16) ∷ [], more_digits k i n acc rest.0 more rest.1))
    (cases_lt n 16)

-- digits filled up with zeros to so many, as the formatter writes them
zeros_and_digits : (k n : ℕ) → n < 16 ^ k → 0 < k → k ≤ 64 → zeros (k - length (digits 16 false n)) ++ digits 16 false n ≡ hex_text k n
unfolding digits
zeros_and_digits k n small some fuel =
    let found = padded_digits k 64 n [] small some fuel in
    let is : digits 16 false n ≡ found.0 = found.1.0 ∙ append-nil found.0 in
    let P : List ℕ → Type 0 = λ ds. zeros (k - length ds) ++ ds ≡ hex_text k n in
    subst P (sym is) found.1.2

-- what `{:016x}` writes of a number below 2 ^ 64
pub hex_sixteen : (n : ℕ) → n < 2 ^ 64 → padded_integral (format_spec 32 0 4 16 (2 ^ 64 - 1)) false [] (digits 16 false n) ≡ hex_text 16 n
unfolding padded_integral char_count
hex_sixteen n small =
    let e : 16 - length (digits 16 false n) - 0 - 0 ≡ 16 - length (digits 16 false n) = omega arith in
    ap (λ j. zeros j ++ (digits 16 false n ++ [])) e ∙ ap (λ t. zeros (16 - length (digits 16 false n)) ++ t) (append-nil (digits 16 false n))
    ∙ zeros_and_digits 16 n (omega arith) (omega arith) (omega arith)

-- what `{:02x}` writes of a number below 256
pub hex_two : (n : ℕ) → n < 256 → padded_integral (format_spec 32 0 4 2 (2 ^ 64 - 1)) false [] (digits 16 false n) ≡ hex_text 2 n
unfolding padded_integral char_count
hex_two n small =
    let e : 2 - length (digits 16 false n) - 0 - 0 ≡ 2 - length (digits 16 false n) = omega arith in
    ap (λ j. zeros j ++ (digits 16 false n ++ [])) e ∙ ap (λ t. zeros (2 - length (digits 16 false n)) ++ t) (append-nil (digits 16 false n))
    ∙ zeros_and_digits 2 n (omega arith) (omega arith) (omega arith)

-- the text of a number is that of its front, then that of its back
pub hex_text-halves : (j k q r : ℕ) → r < 16 ^ k → hex_text (j + k) (q * 16 ^ k + r) ≡ hex_text j q ++ hex_text k r
unfolding hex_text
hex_text-halves j zero q r small =
    let count : j + 0 ≡ j = omega arith in
    let number : q * 16 ^ 0 + r ≡ q = omega arith in
    ap (λ i. hex_text i (q * 16 ^ 0 + r)) count ∙ ap (λ n. hex_text j n) number ∙ sym (append-nil (hex_text j q))
hex_text-halves j (suc k) q r small =
    let power : 16 ^ suc k ≡ 16 ^ k * 16 = pow-suc 16 k in
    let product : q * 16 ^ suc k ≡ q * 16 ^ k * 16 = ap (λ p. q * p) power ∙ sym (mul_assoc q (16 ^ k) 16) in
    let front : (q * 16 ^ suc k + r) / 16 ≡ q * 16 ^ k + r / 16 = omega arith in
    let back : (q * 16 ^ suc k + r) % 16 ≡ r % 16 = omega arith in
    let count : j + suc k ≡ suc (j + k) = omega arith in
    ap (λ i. hex_text i (q * 16 ^ suc k + r)) count
    ∙ ap (λ n. hex_text (j + k) n ++ hex_digit ((q * 16 ^ suc k + r) % 16) ∷ []) front
    ∙ ap (λ d. hex_text (j + k) (q * 16 ^ k + r / 16) ++ hex_digit d ∷ []) back
    ∙ ap (λ t. t ++ hex_digit (r % 16) ∷ []) (hex_text-halves j k q (r / 16) (quotient_fits k r small))
    ∙ append_assoc (hex_text j q) (hex_text k (r / 16)) (hex_digit (r % 16) ∷ [])

-- what a hole of so many zero-filled hexadecimal digits writes
pub shown_hex : (d : _) (s : _) (width n : ℕ) → digits_output d ≡ Some (digits 16 false n) → s ≡ format_spec 32 0 4 width (2 ^ 64 - 1)
    → styled_digits_output d s ≡ Some (padded_integral (format_spec 32 0 4 width (2 ^ 64 - 1)) false [] (digits 16 false n))
shown_hex d s width n e f =
    ap (λ o. option_map (padded_integral s false (shown_prefix s (radix_prefix d.base))) o) e
    ∙ ap (λ z. Some (padded_integral z false (shown_prefix z (radix_prefix d.base)) (digits 16 false n))) f

-- a number of 128 bits is written half by half
pub hex_text-wide : (n : ℕ) → hex_text 16 (n / 2 ^ 64) ++ hex_text 16 (bit_and n (2 ^ 64 - 1)) ≡ hex_text 32 n
hex_text-wide n =
    let low : bit_and n (2 ^ 64 - 1) ≡ n % 2 ^ 64 = and_mask n 64 in
    let whole : n / 2 ^ 64 * 16 ^ 16 + n % 2 ^ 64 ≡ n = omega arith in
    let fits : n % 2 ^ 64 < 16 ^ 16 = omega arith in
    ap (λ m. hex_text 16 (n / 2 ^ 64) ++ hex_text 16 m) low ∙ sym (hex_text-halves 16 16 (n / 2 ^ 64) (n % 2 ^ 64) fits) ∙ ap (λ m. hex_text 32 m) whole
