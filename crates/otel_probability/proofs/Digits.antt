-- Numbers of 56 bits and their texts: what is written reads back, and what is read was written.
use Rattle.std.proofs.Common.{◌≡◌, ◌⊎◌, ℕ, zero, suc, ◌+◌, ◌-◌, ◌*◌, ◌/◌, ◌%◌, ◌^◌, ◌<◌, ◌≤◌, List, [], ◌∷◌, ◌++◌, length, Option, Some, None, Bool, true, false, cond, eqb, leb, ◌&&◌, ⊎_elim, inl, inr, refl, sym, ap, ◌∙◌, subst, arith, append_assoc, append-nil}
use Rattle.std.proofs.Math.Nat.{pow-suc, pow-le-pow_right, mul_assoc, mul-le-mul_right}
use Rattle.std.proofs.lemmas.Nat.{pow-add}
use Rattle.std.proofs.lemmas.Bool.{cases_lt}
use Rattle.std.proofs.lemmas.Bool.Decides.{nat_tests}
use Rattle.std.proofs.lemmas.List.Elements.{All-nil, All-cons}
use Rattle.std.specs.List.{All}
use Rattle.std.specs.Option.{option_map}
use borrow.Author.Tests.{eq-eqb, eqb-true, ne_eqb}
use Rattle.opentelemetry.specs.Hex.{hex_digit, hex_text, IsHexDigit, IsHexText}
use Rattle.opentelemetry.proofs.HexRead.{hex_fits_more, hex_text_push, hex_text_IsHexText}
use Rattle.otel_probability.specs.Numbers.{digit_value, is_digit, number_after, randomness_of_text, threshold_of_text, short_hex, WritesRandomness, WritesThreshold}

-- ---- one digit

digit_read : (d : ℕ) → d < 16 → (is_digit (hex_digit d) ≡ true) × (digit_value (hex_digit d) ≡ d)
digit_read d small = (grind (arith, nat_tests), grind (arith, nat_tests))

digit_is : (b : ℕ) → is_digit b ≡ true → IsHexDigit b
digit_is b h = grind (arith, nat_tests)

digit_small : (b : ℕ) → is_digit b ≡ true → digit_value b < 16
digit_small b h = grind (arith, nat_tests)

digit_written : (b : ℕ) → is_digit b ≡ true → hex_digit (digit_value b) ≡ b
digit_written b h = grind (arith, nat_tests)

-- ---- numbers of digits

next_number : (b m : ℕ) (bs : List ℕ) → is_digit b ≡ true → number_after m (b ∷ bs) ≡ number_after (m * 16 + digit_value b) bs
next_number b m bs h = ap (λ t. cond t (number_after (m * 16 + digit_value b) bs) None) h

no_number : (b m : ℕ) (bs : List ℕ) → is_digit b ≡ false → number_after m (b ∷ bs) ≡ None
no_number b m bs h = ap (λ t. cond t (number_after (m * 16 + digit_value b) bs) None) h

pub true_or_false : (b : Bool) → (b ≡ true) ⊎ (b ≡ false)
true_or_false true = inl refl
true_or_false false = inr refl

number_push : (m p d : ℕ) (xs : List ℕ) → d < 16 → number_after m xs ≡ Some p → number_after m (xs ++ hex_digit d ∷ []) ≡ Some (p * 16 + d)
number_push m p d [] small h =
    let read = digit_read d small in
    let same : m ≡ p = cc in
    next_number (hex_digit d) m [] read.0 ∙ ap (λ v. Some (m * 16 + v)) read.1 ∙ ap (λ k. Some (k * 16 + d)) same
number_push m p d (x ∷ xs) small h =
    ⊎_elim
    (λ yes. next_number x m (xs ++ hex_digit d ∷ []) yes ∙ number_push (m * 16 + digit_value x) p d xs small (sym (next_number x m xs yes) ∙ h))
    (λ no. absurd (cc (sym (no_number x m xs no) ∙ h)))
    (true_or_false (is_digit x))

-- so many digits of a number, after another one
pub number_of_hex : (k n m : ℕ) → n < 16 ^ k → number_after m (hex_text k n) ≡ Some (m * 16 ^ k + n)
unfolding hex_text
number_of_hex zero n m small = ap Some (omega arith)
number_of_hex (suc k) n m small =
    let front : n / 16 < 16 ^ k = omega (arith, pow-suc 16 k) in
    let power : m * 16 ^ suc k ≡ m * 16 ^ k * 16 = ap (λ p. m * p) (pow-suc 16 k) ∙ sym (mul_assoc m (16 ^ k) 16) in
    let whole : (m * 16 ^ k + n / 16) * 16 + n % 16 ≡ m * 16 ^ suc k + n = omega (arith, power) in
    number_push m (m * 16 ^ k + n / 16) (n % 16) (hex_text k (n / 16)) (omega arith) (number_of_hex k (n / 16) m front) ∙ ap Some whole

-- what is no text of digits has no number
none_where_no_hex : (m : ℕ) (xs : List ℕ) → (All IsHexDigit xs → ⊥) → number_after m xs ≡ None
none_where_no_hex m [] h = absurd (h (All-nil IsHexDigit))
none_where_no_hex m (x ∷ xs) h =
    ⊎_elim
    (λ yes. next_number x m xs yes ∙ none_where_no_hex (m * 16 + digit_value x) xs (λ all. h (All-cons IsHexDigit x xs (digit_is x yes) all)))
    (λ no. no_number x m xs no)
    (true_or_false (is_digit x))

-- what has a number is its text, after that of the number in front
digits_read : (j m n : ℕ) (xs : List ℕ) → m < 16 ^ j → number_after m xs ≡ Some n → (n < 16 ^ (j + length xs)) × (hex_text (j + length xs) n ≡ hex_text j m ++ xs)
digits_read j m n [] small h =
    let same : m ≡ n = cc in
    let count : j + 0 ≡ j = omega arith in (
      subst (λ k. n < 16 ^ k) (sym count) (subst (λ v. v < 16 ^ j) same small),
      ap (λ k. hex_text k n) count ∙ ap (λ k. hex_text j k) (sym same) ∙ sym (append-nil (hex_text j m)),
    )
digits_read j m n (x ∷ xs) small h =
    ⊎_elim
    (λ yes.
    let rest = digits_read (j + 1) (m * 16 + digit_value x) n xs (hex_fits_more j m (digit_value x) small (digit_small x yes)) (sym (next_number x m xs yes) ∙ h) in
    let count : j + 1 + length xs ≡ j + suc (length xs) = omega arith in
    let push = hex_text_push j m (digit_value x) (digit_small x yes) in (
      subst (λ k. n < 16 ^ k) count rest.0,
      ap (λ k. hex_text k n) (sym count) ∙ rest.1 ∙ ap (λ t. t ++ xs) push ∙ ap (λ b. (hex_text j m ++ b ∷ []) ++ xs) (digit_written x yes)
          ∙ append_assoc (hex_text j m) (x ∷ []) xs,
    ))
    (λ no. absurd (cc (sym (no_number x m xs no) ∙ h)))
    (true_or_false (is_digit x))

pub digits_written : (n : ℕ) (xs : List ℕ) → number_after 0 xs ≡ Some n → (n < 16 ^ length xs) × (xs ≡ hex_text (length xs) n)
unfolding hex_text
digits_written n xs h =
    let read = digits_read 0 0 n xs (omega arith) h in
    let count : 0 + length xs ≡ length xs = omega arith in
    (subst (λ k. n < 16 ^ k) count read.0, sym (sym (ap (λ k. hex_text k n) count) ∙ read.1))

-- the number that a text of its digits has
number_of_text : (text : List ℕ) (n count : ℕ) → n < 16 ^ count → text ≡ hex_text count n → number_after 0 text ≡ Some n
number_of_text text n count small is =
    let whole : 0 * 16 ^ count + n ≡ n = omega arith in
    ap (number_after 0) is ∙ number_of_hex count n 0 small ∙ ap Some whole

-- ---- randomness

length_of_hex : (text : List ℕ) (n count : ℕ) → text ≡ hex_text count n → length text ≡ count
length_of_hex text n count is = ap length is ∙ (hex_text_IsHexText count n).0

pub written_randomness : (text : List ℕ) (n : ℕ) → n < 16 ^ 14 → text ≡ hex_text 14 n → randomness_of_text text ≡ Some n
written_randomness text n small is =
    ap (λ b. cond b (number_after 0 text) None) (eq-eqb (length text) 14 (length_of_hex text n 14 is)) ∙ number_of_text text n 14 small is

pub no_randomness : (text : List ℕ) → (IsHexText 14 text → ⊥) → randomness_of_text text ≡ None
no_randomness text h =
    ⊎_elim
    (λ yes. ap (λ b. cond b (number_after 0 text) None) yes ∙ none_where_no_hex 0 text (λ all. h (eqb-true (length text) 14 yes, all)))
    (λ no. ap (λ b. cond b (number_after 0 text) None) no)
    (true_or_false (eqb (length text) 14))

-- ---- thresholds

pub power_fits : (k : ℕ) → k ≤ 14 → 16 ^ k ≤ 16 ^ 14
power_fits k few = pow-le-pow_right (omega arith) few

pub threshold_fits : (count front power : ℕ) → count ≤ 14 → front < 16 ^ count → power ≡ 16 ^ (14 - count) → front * power < 16 ^ 14
threshold_fits count front power few fits is =
    let some : suc front ≤ 16 ^ count = fits in
    let most : suc front * 16 ^ (14 - count) ≤ 16 ^ count * 16 ^ (14 - count) = mul-le-mul_right (16 ^ (14 - count)) some in
    let all : count + (14 - count) ≡ 14 = omega arith in
    let whole : 16 ^ count * 16 ^ (14 - count) ≡ 16 ^ 14 = sym (pow-add 16 count (14 - count)) ∙ ap (λ k. 16 ^ k) all in
    let positive : 0 < 16 ^ (14 - count) = grind arith in
    let product : suc front * 16 ^ (14 - count) ≡ 16 ^ (14 - count) + front * 16 ^ (14 - count) = grind arith in
    let same : front * power ≡ front * 16 ^ (14 - count) = ap (λ p. front * p) is in
    omega (arith, most, whole, positive, product, same)

of_length : (text : List ℕ) → 1 ≤ length text → length text ≤ 14 → (leb 1 (length text) && leb (length text) 14) ≡ true
of_length text some few = grind (arith, nat_tests)

pub written_threshold : (text : List ℕ) (front : ℕ) → 1 ≤ length text → length text ≤ 14 → front < 16 ^ length text → text ≡ hex_text (length text) front
    → threshold_of_text text ≡ Some (front * 16 ^ (14 - length text))
written_threshold text front some few fits is =
    ap (λ b. cond b (option_map (λ n. n * 16 ^ (14 - length text)) (number_after 0 text)) None) (of_length text some few)
    ∙ ap (option_map (λ n. n * 16 ^ (14 - length text))) (number_of_text text front (length text) fits is)

pub no_threshold : (text : List ℕ) → (IsHexText (length text) text → ⊥) → threshold_of_text text ≡ None
no_threshold text h =
    ⊎_elim
    (λ yes. ap (λ b. cond b (option_map (λ n. n * 16 ^ (14 - length text)) (number_after 0 text)) None) yes
    ∙ ap (option_map (λ n. n * 16 ^ (14 - length text))) (none_where_no_hex 0 text (λ all. h (refl, all))))
    (λ no. ap (λ b. cond b (option_map (λ n. n * 16 ^ (14 - length text)) (number_after 0 text)) None) no)
    (true_or_false (leb 1 (length text) && leb (length text) 14))

-- ---- what is written

-- the last of so many digits
pub hex_text_last : (count n : ℕ) → 1 ≤ count → hex_text count n ≡ hex_text (count - 1) (n / 16) ++ hex_digit (n % 16) ∷ []
unfolding hex_text
hex_text_last zero n some = absurd (omega arith)
hex_text_last (suc count) n some = let rest : count ≡ suc count - 1 = omega arith in ap (λ k. hex_text k (n / 16) ++ hex_digit (n % 16) ∷ []) rest

pub hex_text_none : (count n : ℕ) → count ≡ 0 → hex_text count n ≡ []
unfolding hex_text
hex_text_none count n none = ap (λ k. hex_text k n) none

-- a digit zero at the end is left out, and the first digit and any other last one stay
pub short_hex_zero : (count n : ℕ) → 1 < count → n % 16 ≡ 0 → short_hex count n ≡ short_hex (count - 1) (n / 16)
unfolding short_hex
short_hex_zero zero n some last = absurd (omega arith)
short_hex_zero (suc zero) n some last = absurd (omega arith)
short_hex_zero (suc (suc count)) n some last =
    let rest : suc count ≡ suc (suc count) - 1 = omega arith in
    ap (λ b. cond b (short_hex (suc count) (n / 16)) (hex_text (suc (suc count)) n)) (eq-eqb (n % 16) 0 last) ∙ ap (λ k. short_hex k (n / 16)) rest

pub short_hex_whole : (count n : ℕ) → (n % 16 ≡ 0 → ⊥) → short_hex count n ≡ hex_text count n
unfolding hex_text short_hex
short_hex_whole zero n other = refl
short_hex_whole (suc zero) n other = refl
short_hex_whole (suc (suc count)) n other = ap (λ b. cond b (short_hex (suc count) (n / 16)) (hex_text (suc (suc count)) n)) (ne_eqb (n % 16) 0 other)

pub short_hex_one : (count n : ℕ) → count ≤ 1 → short_hex count n ≡ hex_text count n
unfolding hex_text short_hex
short_hex_one zero n few = refl
short_hex_one (suc zero) n few = refl
short_hex_one (suc (suc count)) n few = absurd (omega arith)

-- a digit is one byte
pub hex_digit_ascii : (d n : ℕ) → d ≡ hex_digit (n % 16) → d < 128
hex_digit_ascii d n is = let small : n % 16 < 16 = omega arith in grind (arith, nat_tests)

-- ---- what is written reads back

written_of_count : (text : List ℕ) (front count : ℕ) → 1 ≤ count → count ≤ 14 → front < 16 ^ count → text ≡ hex_text count front
    → threshold_of_text text ≡ Some (front * 16 ^ (14 - count))
written_of_count text front count some few fits is =
    let same : count ≡ length text = sym (length_of_hex text front count is) in
    let P : ℕ → Type 0 = λ k. 1 ≤ k → k ≤ 14 → front < 16 ^ k → text ≡ hex_text k front → threshold_of_text text ≡ Some (front * 16 ^ (14 - k)) in
    subst P (sym same) (written_threshold text front) some few fits is

one_digit_more : (k n : ℕ) → 1 < k → k ≤ 14 → n % 16 ≡ 0 → n / 16 * 16 ^ (14 - (k - 1)) ≡ n * 16 ^ (14 - k)
one_digit_more k n some few last =
    let count : 14 - (k - 1) ≡ suc (14 - k) = omega arith in
    let power : 16 ^ (14 - (k - 1)) ≡ 16 ^ (14 - k) * 16 = ap (λ j. 16 ^ j) count ∙ pow-suc 16 (14 - k) in
    let whole : n / 16 * 16 ≡ n = omega arith in
    let moved : n / 16 * (16 ^ (14 - k) * 16) ≡ n / 16 * 16 * 16 ^ (14 - k) = grind arith in
    ap (λ p. n / 16 * p) power ∙ moved ∙ ap (λ m. m * 16 ^ (14 - k)) whole

fewer_digits : (k n : ℕ) → 1 < k → n < 16 ^ k → n / 16 < 16 ^ (k - 1)
fewer_digits zero n some small = absurd (omega arith)
fewer_digits (suc k) n some small =
    let rest : k ≡ suc k - 1 = omega arith in
    let power : 16 ^ suc k ≡ 16 ^ k * 16 = pow-suc 16 k in
    let quotient : n / 16 < 16 ^ k = omega (arith, power) in
    subst (λ j. n / 16 < 16 ^ j) rest quotient

short_read : (fuel k n : ℕ) → k ≤ fuel → 1 ≤ k → k ≤ 14 → n < 16 ^ k → threshold_of_text (short_hex k n) ≡ Some (n * 16 ^ (14 - k))
short_read zero k n within some few small = absurd (omega arith)
short_read (suc fuel) k n within some few small =
    ⊎_elim
    (λ one. written_of_count (short_hex k n) n k some few small (short_hex_one k n (omega arith)))
    (λ more.
    ⊎_elim
    (λ last.
    let ends : n % 16 ≡ 0 = eqb-true (n % 16) 0 last in
    ap threshold_of_text (short_hex_zero k n more ends)
    ∙ short_read fuel (k - 1) (n / 16) (omega arith) (omega arith) (omega arith) (fewer_digits k n more small)
    ∙ ap Some (one_digit_more k n more few ends))
    (λ other. written_of_count (short_hex k n) n k some few small (short_hex_whole k n (λ e. absurd (cc (sym other ∙ eq-eqb (n % 16) 0 e)))))
    (true_or_false (eqb (n % 16) 0)))
    (cases_lt k 2)

pub threshold_reads_back : (n : ℕ) → n < 16 ^ 14 → threshold_of_text (short_hex 14 n) ≡ Some n
threshold_reads_back n small =
    let whole : n * 16 ^ (14 - 14) ≡ n = omega arith in
    short_read 14 14 n (omega arith) (omega arith) (omega arith) small ∙ ap Some whole

-- ---- what is read was written

some_number : (o : Option ℕ) (p t : ℕ) → option_map (λ n. n * p) o ≡ Some t → (front : ℕ) × (o ≡ Some front) × (t ≡ front * p)
some_number None p t h = absurd cc
some_number (Some front) p t h = (front, refl, cc)

length_is : (text : List ℕ) → (leb 1 (length text) && leb (length text) 14) ≡ true → (1 ≤ length text) × (length text ≤ 14)
length_is text h = (grind (arith, nat_tests), grind (arith, nat_tests))

pub threshold_was_written : (text : List ℕ) (t : ℕ) → threshold_of_text text ≡ Some t → WritesThreshold text t
threshold_was_written text t h =
    ⊎_elim
    (λ (long : (leb 1 (length text) && leb (length text) 14) ≡ true).
    let rest : option_map (λ n. n * 16 ^ (14 - length text)) (number_after 0 text) ≡ Some t = sym (ap (λ b. cond b (option_map (λ n. n * 16 ^ (14 - length text)) (number_after 0 text)) None) long) ∙ h in
    let found = some_number (number_after 0 text) (16 ^ (14 - length text)) t rest in
    let digits = digits_written found.0 text found.1 in
    record {
      some = (length_is text long).0;
      few = (length_is text long).1;
      front = found.0;
      fits = digits.0;
      written = digits.1;
      value = found.2;
    })
    (λ (short : (leb 1 (length text) && leb (length text) 14) ≡ false). absurd (cc (sym (ap (λ b. cond b (option_map (λ n. n * 16 ^ (14 - length text)) (number_after 0 text)) None) short) ∙ h)))
    (true_or_false (leb 1 (length text) && leb (length text) 14))

pub threshold_is_read : (text : List ℕ) (t : ℕ) → WritesThreshold text t → threshold_of_text text ≡ Some t
threshold_is_read text t w = written_threshold text w.front w.some w.few w.fits w.written ∙ ap Some (sym w.value)

pub randomness_was_written : (text : List ℕ) (r : ℕ) → randomness_of_text text ≡ Some r → WritesRandomness text r
randomness_was_written text r h =
    ⊎_elim
    (λ long.
    let digits = digits_written r text (sym (ap (λ b. cond b (number_after 0 text) None) long) ∙ h) in
    let count : length text ≡ 14 = eqb-true (length text) 14 long in
    let small : r < 16 ^ 14 = subst (λ k. r < 16 ^ k) count digits.0 in
    record { small = omega (arith, small); written = digits.1 ∙ ap (λ k. hex_text k r) count })
    (λ short. absurd (cc (sym (ap (λ b. cond b (number_after 0 text) None) short) ∙ h)))
    (true_or_false (eqb (length text) 14))

pub randomness_is_read : (text : List ℕ) (r : ℕ) → WritesRandomness text r → randomness_of_text text ≡ Some r
randomness_is_read text r w = written_randomness text r (omega (arith, w.small)) w.written
