-- Ratios: how digits add up to a number, which texts are decimals, and which low halves a ratio samples.
use Rattle.std.proofs.Common.{◌≡◌, ◌≢◌, ◌⊎◌, inl, inr, ℕ, zero, suc, ◌+◌, ◌-◌, ◌*◌, ◌/◌, ◌%◌, ◌^◌, ◌<◌, ◌≤◌, List, [], ◌∷◌, ◌++◌, length, get_or, take, drop, add-one, refl, sym, ap, subst, ◌∙◌, arith}
use Rattle.std.proofs.Math.Nat.{pow-suc, mul-le-mul_left, mul-le-mul_right, le_of_mul-le-mul_right, pow-le-pow_right, mul_assoc, div-div-eq-div-mul}
use Rattle.std.proofs.lemmas.Nat.{pow-add}
use Rattle.std.proofs.lemmas.List.{take_more, length-append}
use Rattle.std.proofs.lemmas.Str.{digit_value_digit}
use Rattle.std.proofs.lemmas.Str.Parse.{digit_from_value}
use Rattle.std.specs.Prelude.{Option, None, Some, MatchOption}
use Rattle.std.specs.Char.{digit_value}
use Rattle.std.specs.Int.{w64, w128, from_be_bytes, to_be_bytes}
use Rattle.std.specs.Str.Parse.{AllDigits, digits_value_after}
use Rattle.otel_sampling.specs.Ratio.{PlainRatio, WritesRatio, IsCutAtPoint, IsDecimal, IsRatioText}

-- ---- digits

-- digits after others go on from their number
pub value_after_append : (n : ℕ) (xs ys : List ℕ) → digits_value_after 10 n (xs ++ ys) ≡ digits_value_after 10 (digits_value_after 10 n xs) ys
value_after_append n [] ys = refl
value_after_append n (x ∷ xs) ys = value_after_append (n * 10 + digit_value x) xs ys

pub digits_append : (xs ys : List ℕ) → AllDigits 10 xs → AllDigits 10 ys → AllDigits 10 (xs ++ ys)
digits_append [] ys are also = also
digits_append (x ∷ xs) ys are also = (are.0, digits_append xs ys are.1 also)

pub digits_front : (xs ys : List ℕ) → AllDigits 10 (xs ++ ys) → AllDigits 10 xs
digits_front [] ys are = tt
digits_front (x ∷ xs) ys are = (are.0, digits_front xs ys are.1)

pub digits_after : (xs ys : List ℕ) → AllDigits 10 (xs ++ ys) → AllDigits 10 ys
digits_after [] ys are = are
digits_after (x ∷ xs) ys are = digits_after xs ys are.1

pub digit_at : (xs : List ℕ) (i : ℕ) → AllDigits 10 xs → i < length xs → digit_value (get_or xs i 0) < 10
digit_at [] i are inside = absurd (omega arith)
digit_at (x ∷ xs) zero are inside = are.0
digit_at (x ∷ xs) (suc i) are inside = digit_at xs i are.1 (omega arith)

power_next : (i : ℕ) → 10 ^ (i + 1) ≡ 10 ^ i * 10
power_next i = ap (λ k. 10 ^ k) (add-one i) ∙ pow-suc 10 i

next_bound : (start i : ℕ) → (start + 1) * 10 ^ (i + 1) ≡ (start + 1) * 10 ^ i * 10
next_bound start i = ap (λ p. (start + 1) * p) (power_next i) ∙ sym (mul_assoc (start + 1) (10 ^ i) 10)

-- a further digit stays below the next power of ten
pub fits_more : (start n d i : ℕ) → n + 1 ≤ (start + 1) * 10 ^ i → d < 10 → n * 10 + d + 1 ≤ (start + 1) * 10 ^ (i + 1)
fits_more start n d i fits digit =
    omega (arith, fits, next_bound start i, digit)

-- there is room for a further digit in 64 bits
pub room_for_digit : (start n i count : ℕ) → n + 1 ≤ (start + 1) * 10 ^ i → i < count → (start + 1) * 10 ^ count ≤ 10 ^ 19 → n * 10 + 10 ≤ 10 ^ 19
room_for_digit start n i count fits below room =
    let power : 10 ^ (i + 1) ≤ 10 ^ count = pow-le-pow_right (omega arith) (omega arith) in
    let most : (start + 1) * 10 ^ (i + 1) ≤ (start + 1) * 10 ^ count = mul-le-mul_left (start + 1) power in
    omega (arith, fits, next_bound start i, most, room)

-- so many digits have room, from nothing and after others
pub room_at_first : (count : ℕ) → count ≤ 19 → (0 + 1) * 10 ^ count ≤ 10 ^ 19
room_at_first count few = let power : 10 ^ count ≤ 10 ^ 19 = pow-le-pow_right (omega arith) few in omega (arith, power)

pub room_after : (n front after : ℕ) → n + 1 ≤ (0 + 1) * 10 ^ front → front + after ≤ 19 → (n + 1) * 10 ^ after ≤ 10 ^ 19
room_after n front after fits few =
    let most : (n + 1) * 10 ^ after ≤ (0 + 1) * 10 ^ front * 10 ^ after = mul-le-mul_right (10 ^ after) fits in
    let both : 10 ^ (front + after) ≡ 10 ^ front * 10 ^ after = pow-add 10 front after in
    let power : 10 ^ (front + after) ≤ 10 ^ 19 = pow-le-pow_right (omega arith) few in
    omega (arith, most, both, power)

-- the next byte is a digit: it goes on from the number of those before it
pub digit_more : (start n i d : ℕ) (ds : List ℕ) → i < length ds → 48 ≤ get_or ds i 0 → get_or ds i 0 ≤ 57 → d ≡ get_or ds i 0 - 48
    → AllDigits 10 (take i ds) → n ≡ digits_value_after 10 start (take i ds)
    → AllDigits 10 (take (i + 1) ds) × (n * 10 + d ≡ digits_value_after 10 start (take (i + 1) ds))
digit_more start n i d ds inside low high e are is =
    let value : digit_value (get_or ds i 0) + 48 ≡ get_or ds i 0 = digit_value_digit (get_or ds i 0) (low, high) in
    let below : digit_value (get_or ds i 0) < 10 = omega (arith, value, high) in
    let more : take (i + 1) ds ≡ take i ds ++ get_or ds i 0 ∷ [] = take_more ds i 0 inside in
    let same : d ≡ digit_value (get_or ds i 0) = omega (arith, value, e) in (
      subst (AllDigits 10) (sym more) (digits_append (take i ds) (get_or ds i 0 ∷ []) are (below, tt)),
      (λ k. is k * 10 + same k) ∙ sym (ap (digits_value_after 10 start) more ∙ value_after_append start (take i ds) (get_or ds i 0 ∷ [])),
    )

-- a byte that is no digit
pub no_digit : (i : ℕ) (ds : List ℕ) → i < length ds → (48 ≤ get_or ds i 0 → get_or ds i 0 ≤ 57 → ⊥) → AllDigits 10 ds → ⊥
no_digit i ds inside none are = let range = digit_from_value (get_or ds i 0) (digit_at ds i are inside) in none range.0 range.1

-- ---- decimals

point_is_none : AllDigits 10 (46 ∷ []) → ⊥
point_is_none are = absurd (omega (arith, are.0))

-- no digit is a point
not_point : (x : ℕ) → digit_value x < 10 → x ≢ 46
not_point x digit e = point_is_none (subst (λ b. digit_value b < 10) e digit, tt)

cut_head : (x y : ℕ) (xs ys : List ℕ) → x ∷ xs ≡ y ∷ ys → x ≡ y
cut_head x y xs ys e = ap (λ l. get_or l 0 0) e

cut_tail : (x y : ℕ) (xs ys : List ℕ) → x ∷ xs ≡ y ∷ ys → xs ≡ ys
cut_tail x y xs ys e = ap (drop 1) e

-- a text with a point has one cut at it with digits alone in front
same_cut : (w whole f fraction : List ℕ) → whole ++ 46 ∷ fraction ≡ w ++ 46 ∷ f → ((i : ℕ) → i < length whole → get_or whole i 0 ≢ 46)
    → AllDigits 10 w → (w ≡ whole) × (f ≡ fraction)
same_cut [] [] f fraction e none are = (refl, sym (cut_tail 46 46 fraction f e))
same_cut [] (y ∷ whole) f fraction e none are = absurd (none 0 (omega arith) (cut_head y 46 (whole ++ 46 ∷ fraction) f e))
same_cut (x ∷ w) [] f fraction e none are = absurd (not_point x are.0 (sym (cut_head 46 x fraction (w ++ 46 ∷ f) e)))
same_cut (x ∷ w) (y ∷ whole) f fraction e none are =
    let rest = same_cut w whole f fraction (cut_tail y x (whole ++ 46 ∷ fraction) (w ++ 46 ∷ f) e) (λ i inside. none (suc i) (omega arith)) are.1 in
    let head : x ≡ y = sym (cut_head y x (whole ++ 46 ∷ fraction) (w ++ 46 ∷ f) e) in
    ((λ k. head k ∷ rest.0 k), rest.1)

-- only the parts around its first point can be those of a decimal
pub cut_at_point : (text whole fraction : List ℕ) → text ≡ whole ++ 46 ∷ fraction → ((i : ℕ) → i < length whole → get_or whole i 0 ≢ 46)
    → (w f : List ℕ) → IsCutAtPoint text w f → AllDigits 10 (w ++ f) → (w ≡ whole) × (f ≡ fraction)
cut_at_point text whole fraction e none w f (inl cut) are = same_cut w whole f fraction (sym e ∙ cut) none (digits_front w f are)
cut_at_point text whole fraction e none w f (inr cut) are =
    let all : AllDigits 10 (whole ++ 46 ∷ fraction) = subst (AllDigits 10) (sym cut.0 ∙ e) (digits_front w f are) in
    absurd (point_is_none ((digits_after whole (46 ∷ fraction) all).0, tt))

point_stands : (w f : List ℕ) → (length w < length (w ++ 46 ∷ f)) × (get_or (w ++ 46 ∷ f) (length w) 0 ≡ 46)
point_stands [] f = (omega arith, refl)
point_stands (x ∷ w) f = let rest = point_stands w f in (omega (arith, rest.0), rest.1)

-- a text without a point is all in front of it
pub cut_nowhere : (text : List ℕ) → ((i : ℕ) → i < length text → get_or text i 0 ≢ 46)
    → (w f : List ℕ) → IsCutAtPoint text w f → AllDigits 10 (w ++ f) → (w ≡ text) × (f ≡ [])
cut_nowhere text none w f (inl cut) are =
    let there = point_stands w f in
    absurd (none (length w) (subst (λ t. length w < length t) (sym cut) there.0) (ap (λ t. get_or t (length w) 0) cut ∙ there.1))
cut_nowhere text none w f (inr cut) are = (sym cut.0, cut.1)

-- what the parts write the text writes, where no other parts can be those of a decimal
pub decimal_by_parts : (text whole fraction : List ℕ) (r : Option PlainRatio) → IsCutAtPoint text whole fraction
    → ((w f : List ℕ) → IsCutAtPoint text w f → AllDigits 10 (w ++ f) → (w ≡ whole) × (f ≡ fraction))
    → MatchOption r ((ratio : PlainRatio) → WritesRatio whole fraction ratio → ⊥) (λ ratio. WritesRatio whole fraction ratio)
    → MatchOption r ((ratio : PlainRatio) → IsDecimal text ratio → ⊥) (λ ratio. IsDecimal text ratio)
decimal_by_parts text whole fraction None cut only m =
    λ ratio decimal. let (w, f, other, writes) = decimal in let same = only w f other writes.digits in
    m ratio (subst (λ (p : List ℕ × List ℕ). WritesRatio p.0 p.1 ratio) (λ k. (same.0 k, same.1 k)) writes)
decimal_by_parts text whole fraction (Some ratio) cut only m = (whole, fraction, cut, m)

-- what a decimal begins with
decimal_front : (b : ℕ) (rest : List ℕ) (ratio : PlainRatio) → IsDecimal (b ∷ rest) ratio → (b ≡ 46) ⊎ (digit_value b < 10)
decimal_front b rest ratio ([], f, inl cut, writes) = inl (cut_head b 46 rest f cut)
decimal_front b rest ratio ([], f, inr cut, writes) = absurd (cc)
decimal_front b rest ratio (x ∷ w, f, inl cut, writes) = inr (subst (λ d. digit_value d < 10) (sym (cut_head b x rest (w ++ 46 ∷ f) cut)) writes.digits.0)
decimal_front b rest ratio (x ∷ w, f, inr cut, writes) = inr (subst (λ d. digit_value d < 10) (sym (cut_head b x rest w cut.0)) writes.digits.0)

no_sign : (b : ℕ) → (b ≡ 46) ⊎ (digit_value b < 10) → (b ≢ 43) × (b ≢ 45)
no_sign b (inl e) = ((λ s. omega (arith, e, s)), (λ s. omega (arith, e, s)))
no_sign b (inr digit) = let range = digit_from_value b digit in ((λ s. omega (arith, range.0, s)), (λ s. omega (arith, range.0, s)))

no_signed_decimal : (sign : ℕ) (rest : List ℕ) (ratio : PlainRatio) → (sign ≡ 43) ⊎ (sign ≡ 45) → IsDecimal (sign ∷ rest) ratio → ⊥
no_signed_decimal sign rest ratio (inl e) decimal = (no_sign sign (decimal_front sign rest ratio decimal)).0 e
no_signed_decimal sign rest ratio (inr e) decimal = (no_sign sign (decimal_front sign rest ratio decimal)).1 e

-- what stands after a minus sign: where that is no decimal, the text writes no ratio
pub none_after_minus : (text size : List ℕ) → text ≡ 45 ∷ size → ((ratio : PlainRatio) → IsDecimal size ratio → ⊥)
    → (ratio : PlainRatio) → IsRatioText text ratio → ⊥
none_after_minus text size e none ratio (inl decimal) = no_signed_decimal 45 size ratio (inr refl) (subst (λ t. IsDecimal t ratio) e decimal)
none_after_minus text size e none ratio (inr (inl (rest, cut, decimal))) =
    let apart : 43 ≡ 45 = cut_head 43 45 rest size (sym cut ∙ e) in absurd (omega (arith, apart))
none_after_minus text size e none ratio (inr (inr (rest, cut, (other, decimal), is))) =
    none other (subst (λ t. IsDecimal t other) (cut_tail 45 45 rest size (sym cut ∙ e)) decimal)

-- what stands after a plus sign writes what the text writes
pub by_plus : (text size : List ℕ) (r : Option PlainRatio) → text ≡ 43 ∷ size
    → MatchOption r ((ratio : PlainRatio) → IsDecimal size ratio → ⊥) (λ ratio. IsDecimal size ratio)
    → MatchOption r ((ratio : PlainRatio) → IsRatioText text ratio → ⊥) (λ ratio. IsRatioText text ratio)
by_plus text size None e none = none_there
  where
    none_there : (ratio : PlainRatio) → IsRatioText text ratio → ⊥
    none_there ratio (inl decimal) = no_signed_decimal 43 size ratio (inl refl) (subst (λ t. IsDecimal t ratio) e decimal)
    none_there ratio (inr (inl (rest, cut, decimal))) = none ratio (subst (λ t. IsDecimal t ratio) (cut_tail 43 43 rest size (sym cut ∙ e)) decimal)
    none_there ratio (inr (inr (rest, cut, decimal, is))) = let apart : 45 ≡ 43 = cut_head 45 43 rest size (sym cut ∙ e) in absurd (omega (arith, apart))
by_plus text size (Some ratio) e decimal = inr (inl (size, e, decimal))

-- without a sign the text itself is to be a decimal
pub by_itself : (text : List ℕ) (r : Option PlainRatio) → ((rest : List ℕ) → text ≢ 45 ∷ rest) → ((rest : List ℕ) → text ≢ 43 ∷ rest)
    → MatchOption r ((ratio : PlainRatio) → IsDecimal text ratio → ⊥) (λ ratio. IsDecimal text ratio)
    → MatchOption r ((ratio : PlainRatio) → IsRatioText text ratio → ⊥) (λ ratio. IsRatioText text ratio)
by_itself text None minus plus none = none_there
  where
    none_there : (ratio : PlainRatio) → IsRatioText text ratio → ⊥
    none_there ratio (inl decimal) = none ratio decimal
    none_there ratio (inr (inl (rest, cut, decimal))) = plus rest cut
    none_there ratio (inr (inr (rest, cut, decimal, is))) = minus rest cut
by_itself text (Some ratio) minus plus decimal = inl decimal

-- digits in front of a point and after it write a ratio
pub writes : (whole fraction : List ℕ) (front n power : ℕ) → AllDigits 10 whole × (front ≡ digits_value_after 10 0 whole)
    → AllDigits 10 fraction × (n ≡ digits_value_after 10 front fraction) → power ≡ 10 ^ length fraction
    → 0 < length whole + length fraction → length whole + length fraction ≤ 19
    → WritesRatio whole fraction (record { numerator = n; denominator = power })
writes whole fraction front n power first second tens some few = record {
  digits = digits_append whole fraction first.0 second.0;
  some = rw (length-append whole fraction) some;
  few = rw (length-append whole fraction) few;
  value = λ k. record { numerator = (second.1 ∙ ap (λ m. digits_value_after 10 m fraction) first.1 ∙ sym (value_after_append 0 whole fraction)) k; denominator = tens k };
}

-- ---- low halves

byte_and_rest : (n p : ℕ) → n / p ≡ n / p % 256 + n / (p * 256) * 256
byte_and_rest n p = omega (arith, div-div-eq-div-mul n p 256)

joined : (a b c d e f g h n p q r s t u v w : ℕ) → n ≡ a + p * 256 → p ≡ b + q * 256 → q ≡ c + r * 256 → r ≡ d + s * 256
    → s ≡ e + t * 256 → t ≡ f + u * 256 → u ≡ g + v * 256 → v ≡ h + w * 256
    → h * 72057594037927936 + g * 281474976710656 + f * 1099511627776 + e * 4294967296 + d * 16777216 + c * 65536 + b * 256 + a
    + w * 18446744073709551616 ≡ n
joined a b c d e f g h n p q r s t u v w at_0 at_1 at_2 at_3 at_4 at_5 at_6 at_7 = omega arith

-- the last 8 of the bytes of an id
abbrev pub last_bytes : List ℕ → List ℕ
last_bytes bs = get_or bs 8 0 ∷ get_or bs 9 0 ∷ get_or bs 10 0 ∷ get_or bs 11 0 ∷ get_or bs 12 0 ∷ get_or bs 13 0 ∷ get_or bs 14 0 ∷ get_or bs 15 0 ∷ []

low_bytes : (n : ℕ) → from_be_bytes w64 (last_bytes (to_be_bytes w128 n)) ≡ n % 2 ^ 64
low_bytes n =
    let low : n ≡ n % 256 + n / 256 * 256 = omega arith in
    let whole = joined _ _ _ _ _ _ _ _ n _ _ _ _ _ _ _ _ low (byte_and_rest n 256) (byte_and_rest n 65536) (byte_and_rest n 16777216)
    (byte_and_rest n 4294967296) (byte_and_rest n 1099511627776) (byte_and_rest n 281474976710656) (byte_and_rest n 72057594037927936) in
    omega (arith, whole)

-- the last 8 bytes of an id are its low half
pub low_half_of : (n low : ℕ) (bytes : List ℕ) → bytes ≡ to_be_bytes w128 n → low ≡ from_be_bytes w64 (last_bytes bytes) → low ≡ n % 2 ^ 64
low_half_of n low bytes are is = is ∙ ap (λ bs. from_be_bytes w64 (last_bytes bs)) are ∙ low_bytes n

-- what is sampled by a ratio is sampled by each that is at least as large
pub larger_samples : (place n d n' d' most : ℕ) → 0 < d → n * d' ≤ n' * d → place * d ≤ n * most → place * d' ≤ n' * most
larger_samples place n d n' d' most positive larger sampled =
    let first : place * d * d' ≤ n * most * d' = mul-le-mul_right d' sampled in
    let second : n * d' * most ≤ n' * d * most = mul-le-mul_right most larger in
    let whole : place * d' * d ≤ n' * most * d = grind (arith, first, second) in
    le_of_mul-le-mul_right whole positive
