-- A decimal of 17 digits that is nearest to a float reads back as it.
use Rattle.std.proofs.Common.{◌≡◌, ℕ, zero, suc, ◌+◌, ◌-◌, ◌*◌, ◌/◌, ◌%◌, ◌^◌, ◌<◌, ◌≤◌, refl, sym, ap, ◌∙◌, subst, inl, inr, arith, lt-ltb, lt_of_mul-lt-mul_right, mul-lt-mul_of_pos_right, mul-le-mul_right, mul-le-mul_left, mul-pos, pow-suc, pow-add, pow_pos, le_trans, le_of_lt, lt_of_le_of_lt, not-le_of_lt, le-ltb, pow_mono, lit≤}
use Rattle.std.proofs.lemmas.Bool.{cases_lt}
use Rattle.std.proofs.lemmas.Nat.{mul-pow, mul-le}
use native.Mathlib.Nat.{pow-le-pow_left, pow-le-pow_right}
use lib.Ieee.{binary64}
use Rattle.fast_float.specs.Rounding.{scaled_bits, IsNearestBits}
use Rattle.fast_float.proofs.ExactLemmas.{ten_to_pos}
use Rattle.fast_float.proofs.RoundingLemmas.{nearest_of_near}
use Rattle.otel_float.specs.FloatText.{significand, exponent, places, whole, digit_count, point, rounded}
use Rattle.otel_float.proofs.Rounding.{rounded_close}
use Rattle.otel_float.proofs.Counting.{HasCount}

-- The decimal d * a / b and the float m * u / z lie less than half of u / z apart.
-- Here w / p is the float, and t and c are the powers of ten of the digits that are kept and of all digits.
module _ (m w d u z p t a b c : ℕ) (float : w * z ≡ m * u * p) (tens : a * p * t ≡ b * c) (from : 2 * (d * c) ≤ 2 * (w * t) + c) (below : 2 * (w * t) ≤ 2 * (d * c) + c) (gap : z * c < u * p * t) (B : 0 < b) (Z : 0 < z) where
  left : b * t * (w * z) ≡ b * t * (m * u * p)
  left = ap (λ x. b * t * x) float

  right : d * z * (a * p * t) ≡ d * z * (b * c)
  right = ap (λ x. d * z * x) tens

  wide : z * c * b < u * p * t * b
  wide = mul-lt-mul_of_pos_right gap B

  scale : 0 < b * z
  scale = mul-pos B Z

  pub not_far_below : 2 * (m * (b * u)) < 2 * (d * a * z) + b * u
  not_far_below =
      let step : 2 * (w * t) * (b * z) ≤ (2 * (d * c) + c) * (b * z) = mul-le-mul_right (b * z) below in
      lt_of_mul-lt-mul_right (p * t) (omega (arith, left, right, wide, step))

  pub not_far_above : 2 * (d * a * z) < 2 * (m * (b * u)) + b * u
  not_far_above =
      let step : 2 * (d * c) * (b * z) ≤ (2 * (w * t) + c) * (b * z) = mul-le-mul_right (b * z) from in
      lt_of_mul-lt-mul_right (p * t) (omega (arith, left, right, wide, step))

-- the gap is wider than the unit of the last of 17 digits
wide_gap : (m w u z p c : ℕ) → w * z ≡ m * u * p → m ≤ 2 ^ 53 → c ≤ 10 * w → 0 < u * p → z * c < u * p * 10 ^ 17
wide_gap m w u z p c float small few some =
    let a : z * c ≤ z * (10 * w) = mul-le-mul_left z few in
    let b : m * (u * p) ≤ 2 ^ 53 * (u * p) = mul-le-mul_right (u * p) small in
    omega (arith, a, b, float)

-- ---- the decimal that is the float
whole_at : (s e l : ℕ) → s * 2 ^ (e - l) * 5 ^ (l - e) * 2 ^ l ≡ s * 2 ^ e * 10 ^ (l - e)
whole_at s e l =
    let sum : e - l + l ≡ e + (l - e) = omega arith in
    let twos : 2 ^ (e - l) * 2 ^ l ≡ 2 ^ e * 2 ^ (l - e) = sym (pow-add 2 (e - l) l) ∙ ap (λ x. 2 ^ x) sum ∙ pow-add 2 e (l - e) in
    let tens : 10 ^ (l - e) ≡ 2 ^ (l - e) * 5 ^ (l - e) = mul-pow 2 5 (l - e) in
    let regrouped : s * 2 ^ (e - l) * 5 ^ (l - e) * 2 ^ l ≡ s * (2 ^ (e - l) * 2 ^ l) * 5 ^ (l - e) = omega arith in
    let again : s * (2 ^ e * 2 ^ (l - e)) * 5 ^ (l - e) ≡ s * 2 ^ e * (2 ^ (l - e) * 5 ^ (l - e)) = omega arith in
    regrouped ∙ ap (λ x. s * x * 5 ^ (l - e)) twos ∙ again ∙ ap (λ x. s * 2 ^ e * x) (sym tens)

pub whole_is : (bits : ℕ) → whole bits * 2 ^ 1074 ≡ significand bits * 2 ^ exponent bits * 10 ^ places bits
unfolding whole
whole_is bits = whole_at (significand bits) (exponent bits) 1074

-- ---- the significand and the exponent from which the nearest float is found
significand_small : (bits : ℕ) → bits < 2 ^ 52 → significand bits ≡ bits
unfolding significand
significand_small bits h = rw (lt-ltb bits (2 ^ 52) h) refl

significand_normal : (bits : ℕ) → 2 ^ 52 ≤ bits → significand bits ≡ bits % 2 ^ 52 + 2 ^ 52
unfolding significand
significand_normal bits h = rw (le-ltb bits (2 ^ 52) h) refl

exponent_is : (bits : ℕ) → exponent bits ≡ bits / 2 ^ 52 - 1
unfolding exponent
exponent_is bits = refl

-- m * 2 ^ k is the float in units of the least one. Below a power of two the gap is half of that above it, so a power of two is taken as the end of the floats below it.
pub record HasUnits (bits m k : ℕ) : Type 0 where
  pub same : scaled_bits binary64 m k ≡ bits
  pub small : m ≤ 2 ^ 53
  pub some : 0 < m
  pub normal : 0 < k → 2 ^ 52 < m
  pub value : significand bits * 2 ^ exponent bits ≡ m * 2 ^ k

at_exponent : (bits s e : ℕ) → significand bits ≡ s → exponent bits ≡ e → 0 < s → s < 2 ^ 53 → (0 < e → 2 ^ 52 ≤ s) → e * 2 ^ 52 + s ≡ bits → bits < 2047 * 2 ^ 52 → (m : ℕ) × (k : ℕ) × HasUnits bits m k
at_exponent bits s zero es ee some small normal sum finite =
    (s, 0, record { same = omega arith; small = omega arith; some = some; normal = λ h. absurd (omega arith); value = rw (es, ee) refl })
at_exponent bits s (suc e) es ee some small normal sum finite =
    elim (cases_lt (2 ^ 52) s) [
      | inl above ↦ (s, suc e, record { same = omega arith; small = omega arith; some = some; normal = λ _. above; value = rw (es, ee) refl })
      | inr at ↦
          let least : s ≡ 2 ^ 52 = omega (arith, normal (omega arith)) in
          (2 ^ 53, e, record { same = omega arith; small = omega arith; some = omega arith; normal = λ _. omega arith; value = rw (es, ee, least, pow-suc 2 e) (omega arith) })
    ]

pub has_units : (bits : ℕ) → 0 < bits → bits < 2047 * 2 ^ 52 → (m : ℕ) × (k : ℕ) × HasUnits bits m k
has_units bits some finite =
    elim (cases_lt bits (2 ^ 52)) [
      | inl small ↦
          let e : exponent bits ≡ 0 = exponent_is bits ∙ omega arith in
          at_exponent bits bits 0 (significand_small bits small) e some (omega arith) (λ h. absurd (omega arith)) (omega arith) finite
      | inr large ↦
          at_exponent bits (bits % 2 ^ 52 + 2 ^ 52) (bits / 2 ^ 52 - 1) (significand_normal bits large) (exponent_is bits) (omega arith) (omega arith) (λ _. omega arith) (omega arith) finite
    ]

-- ---- how far from 1 a float may be
places_few : (bits : ℕ) → places bits ≤ 1074
places_few bits = omega arith

exponent_small : (bits : ℕ) → bits < 2047 * 2 ^ 52 → exponent bits ≤ 2045
exponent_small bits h = omega (arith, exponent_is bits)

significand_below : (bits : ℕ) → significand bits < 2 ^ 53
significand_below bits = elim (cases_lt bits (2 ^ 52)) [ inl s ↦ omega (arith, significand_small bits s) | inr l ↦ omega (arith, significand_normal bits l) ]

significand_some : (bits : ℕ) → 0 < bits → 0 < significand bits
significand_some bits h = elim (cases_lt bits (2 ^ 52)) [ inl s ↦ omega (arith, significand_small bits s) | inr l ↦ omega (arith, significand_normal bits l) ]

fives_pos : (k : ℕ) → 0 < 5 ^ k
fives_pos zero = omega arith
fives_pos (suc k) = omega (arith, pow-suc 5 k, fives_pos k)

-- 5 ^ p ≤ s * u * 5 ^ p
no_less : (s u f : ℕ) → 0 < s → 0 < u → f ≤ s * u * f
no_less s u f S U = let one : 1 ≤ s * u = mul-pos S U in omega (arith, mul-le-mul_right f one)

whole_least : (bits : ℕ) → 0 < bits → 5 ^ places bits ≤ whole bits
unfolding whole
whole_least bits h = no_less (significand bits) (2 ^ (exponent bits - 1074)) (5 ^ places bits) (significand_some bits h) (pow_pos (exponent bits - 1074))

pub whole_some : (bits : ℕ) → 0 < bits → 0 < whole bits
whole_some bits h = omega (arith, whole_least bits h, fives_pos (places bits))

fives_tens : (p : ℕ) → 5 ^ p ≤ 10 ^ p
fives_tens p = let h : 5 ≤ 10 = omega arith in pow-le-pow_left h p

-- the numbers are variables here, since their powers are long
most : (s u f t a b c : ℕ) → s ≤ a → u ≤ b → f ≤ t → a * b ≤ c → s * u * f ≤ c * t
most s u f t a b c hs hu hf hc =
    let one : s * u ≤ a * b = mul-le s u a b hs hu in
    mul-le (s * u) f c t (le_trans one hc) hf

whole_most : (bits : ℕ) → bits < 2047 * 2 ^ 52 → whole bits ≤ 10 ^ 309 * 10 ^ places bits
unfolding whole
whole_most bits h =
    let e : exponent bits - 1074 ≤ 971 = omega (arith, exponent_small bits h) in
    let s : significand bits ≤ 2 ^ 53 = omega (arith, significand_below bits) in
    most (significand bits) (2 ^ (exponent bits - 1074)) (5 ^ places bits) (10 ^ places bits) (2 ^ 53) (2 ^ 971) (10 ^ 309) s (pow_mono e) (fives_tens (places bits)) (lit≤ tt)

pow_less : (b i j : ℕ) → 0 < b → b ^ i < b ^ j → i < j
pow_less b i j B h = elim (cases_lt i j) [ inl l ↦ l | inr g ↦ absurd (not-le_of_lt h (pow-le-pow_right B g)) ]

-- not so small that the power of a digit would be negative
far_down : (p c : ℕ) → p ≤ 1074 → 5 ^ p < 10 ^ c → p + 17 ≤ 400 + c
far_down p c few below =
    elim (cases_lt (400 + c) (p + 17)) [
      | inr fine ↦ fine
      | inl low ↦
          let ten : 0 < 10 = omega arith in
          let sum : c + 384 ≤ p = omega arith in
          let a : 10 ^ c * 10 ^ 384 ≤ 10 ^ p = subst (λ (n : ℕ). n ≤ 10 ^ p) (pow-add 10 c 384) (pow-le-pow_right ten sum) in
          let b : 10 ^ p ≡ 2 ^ p * 5 ^ p = mul-pow 2 5 p in
          absurd (too_small (10 ^ c) (10 ^ 384) (10 ^ p) (2 ^ p) (5 ^ p) (2 ^ 1074) a b below (pow_mono few) (lit≤ tt) (pow_pos p))
    ]
  where
    too_small : (x y z u v w : ℕ) → x * y ≤ z → z ≡ u * v → v < x → u ≤ w → w ≤ y → 0 < u → ⊥
    too_small x y z u v w a b c d e U =
        let s : u * v < u * x = omega (arith, mul-lt-mul_of_pos_right c U) in
        let t : u ≤ y = le_trans d e in
        omega (arith, mul-le-mul_left x t)

pub record HasRoom (bits c : ℕ) : Type 0 where
  pub down : places bits + 17 ≤ 400 + c
  pub up : c ≤ places bits + 310

pub has_room : (bits c : ℕ) → 0 < bits → bits < 2047 * 2 ^ 52 → HasCount (whole bits) c → HasRoom bits (suc c)
has_room bits c some finite count =
    let p = places bits in
    let ten : 0 < 10 = omega arith in
    let sum : 10 ^ 309 * 10 ^ p ≡ 10 ^ (309 + p) = sym (pow-add 10 309 p) in
    let high : 10 ^ c ≤ 10 ^ (309 + p) = subst (λ (n : ℕ). 10 ^ c ≤ n) sum (le_trans count.from (whole_most bits finite)) in
    let next : 10 ^ (309 + p) < 10 ^ suc (309 + p) = omega (arith, pow-suc 10 (309 + p), ten_to_pos (309 + p)) in
    let less : c < suc (309 + p) = pow_less 10 c (suc (309 + p)) ten (lt_of_le_of_lt high next) in
    record { down = far_down p (suc c) (places_few bits) (lt_of_le_of_lt (whole_least bits some) count.below); up = omega arith }

-- ---- 17 digits
above_least : (a m n u : ℕ) → a < m → 2 * (m * u) < 2 * n + u → a * u ≤ n
above_least a m n u more lower = let next : a + 1 ≤ m = omega arith in omega (arith, mul-le-mul_right u next)

ten_times : (c n : ℕ) → 10 ^ c ≤ n → 10 ^ suc c ≤ 10 * n
ten_times c n h = omega (arith, pow-suc 10 c)

power_sum : (q p c : ℕ) → q ≡ 400 + c - p - 17 → p + 17 ≤ 400 + c → 10 ^ (q - 400) * 10 ^ p * 10 ^ 17 ≡ 10 ^ (400 - q) * 10 ^ c
power_sum q p c e room =
    let sum : q - 400 + p + 17 ≡ 400 - q + c = omega arith in
    ap (λ n. n * 10 ^ 17) (sym (pow-add 10 (q - 400) p)) ∙ sym (pow-add 10 (q - 400 + p) 17) ∙ ap (λ n. 10 ^ n) sum ∙ pow-add 10 (400 - q) c

pub point_is : (bits c : ℕ) → digit_count (whole bits) ≡ c → point bits ≡ 400 + c - places bits
unfolding point
point_is bits c e = ap (λ n. 400 + n - places bits) e

-- 17 digits read back
pub seventeen : (bits c : ℕ) → 0 < bits → bits < 2047 * 2 ^ 52 → HasCount (whole bits) c
    → IsNearestBits binary64 (rounded (whole bits) 17 * 10 ^ (point bits - 17 - 400)) (10 ^ (400 - (point bits - 17))) bits
seventeen bits c some finite count =
    let w = whole bits in
    let p = places bits in
    let q = point bits - 17 in
    let d = rounded w 17 in
    let room = has_room bits c some finite count in
    let u = has_units bits some finite in
    let m = u.0 in
    let k = u.1 in
    let has = u.2 in
    let float = whole_is bits ∙ ap (λ n. n * 10 ^ p) has.value in
    let tens = power_sum q p (suc c) (ap (λ n. n - 17) (point_is bits (suc c) count.is)) room.down in
    let close = rounded_close w 17 (suc c) count.is in
    let from = close.0 in
    let below = close.1 in
    let unit = mul-pos (pow_pos k) (ten_to_pos p) in
    let gap = wide_gap m w (2 ^ k) (2 ^ 1074) (10 ^ p) (10 ^ suc c) float has.small (ten_times c w count.from) unit in
    let B = ten_to_pos (400 - q) in
    let lower = not_far_below m w d (2 ^ k) (2 ^ 1074) (10 ^ p) (10 ^ 17) (10 ^ (q - 400)) (10 ^ (400 - q)) (10 ^ suc c) float tens from below gap B (pow_pos 1074) in
    let upper = not_far_above m w d (2 ^ k) (2 ^ 1074) (10 ^ p) (10 ^ 17) (10 ^ (q - 400)) (10 ^ (400 - q)) (10 ^ suc c) float tens from below gap B (pow_pos 1074) in
    subst (IsNearestBits binary64 (d * 10 ^ (q - 400)) (10 ^ (400 - q))) has.same
    (nearest_of_near binary64 _ _ m k B has.small (λ h. le_of_lt (has.normal h)) (λ h. above_least _ _ _ _ (has.normal h) lower) lower upper)
