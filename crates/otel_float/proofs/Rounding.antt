-- A fraction rounded to the nearest whole number, and digits rounded from the first 18.
use Rattle.std.proofs.Common.{◌≡◌, ℕ, zero, suc, ◌+◌, ◌-◌, ◌*◌, ◌/◌, ◌%◌, ◌^◌, ◌<◌, ◌≤◌, sym, ap, ◌∙◌, inl, inr, arith, lt-ltb, le-ltb, mul-le-mul_left, mul-le-mul_right, lt_of_mul-lt-mul_right, le_of_mul-le-mul_right, div-add-mod', mod-lt, pow-suc}
use native.Mathlib.Nat.{eq_of_mul-eq-mul_right}
use Rattle.std.proofs.lemmas.Bool.{cases_lt}
use Rattle.fast_float.proofs.ExactLemmas.{ten_to_pos}
use Rattle.otel_float.specs.FloatText.{digit_count, nearest_even, rounded}
use Rattle.otel_float.proofs.Counting.{HasCount}

pub quotient : (t n d : ℕ) → t * d ≤ n → n < (t + 1) * d → n / d ≡ t
quotient t n d from below = grind arith

-- q is the whole part of a / b
module _ (a b q : ℕ) (from : q * b ≤ a) (below : a < (q + 1) * b) where
  whole_part : a / b ≡ q
  whole_part = quotient q a b from below

  rest_is : a % b ≡ a - q * b
  rest_is = let split = ap (λ n. n * b + a % b) (sym whole_part) ∙ div-add-mod' a b in omega (arith, split)

  pub even_down : 2 * a < 2 * (q * b) + b → nearest_even a b ≡ q
  unfolding nearest_even
  even_down h = rw (rest_is, lt-ltb (2 * (a - q * b)) b (omega arith)) whole_part

  pub even_up : 2 * (q * b) + b < 2 * a → nearest_even a b ≡ q + 1
  unfolding nearest_even
  even_up h = rw (rest_is, le-ltb (2 * (a - q * b)) b (omega arith), lt-ltb b (2 * (a - q * b)) (omega arith)) (ap (λ n. n + 1) whole_part)

  pub even_half : 2 * a ≡ 2 * (q * b) + b → nearest_even a b ≡ q + q % 2
  unfolding nearest_even
  even_half h = rw (rest_is, le-ltb (2 * (a - q * b)) b (omega arith), le-ltb b (2 * (a - q * b)) (omega arith)) (ap (λ n. n + n % 2) whole_part)

-- it is at most a half off
pub even_close : (a b : ℕ) → 0 < b → (2 * (nearest_even a b * b) ≤ 2 * a + b) × (2 * a ≤ 2 * (nearest_even a b * b) + b)
even_close a b some =
    let q = a / b in
    let split = div-add-mod' a b in
    let less = mod-lt a some in
    let from : q * b ≤ a = omega (arith, split) in
    let below : a < (q + 1) * b = omega (arith, split, less) in
    elim (cases_lt (2 * a) (2 * (q * b) + b)) [
      | inl low ↦ rw (even_down a b q from below low) (omega arith, omega arith)
      | inr more ↦ elim (cases_lt (2 * (q * b) + b) (2 * a)) [
        | inl high ↦ rw (even_up a b q from below high) (omega arith, omega arith)
        | inr same ↦
            let e : 2 * a ≡ 2 * (q * b) + b = omega arith in
            let one : q % 2 ≤ 1 = omega arith in
            let few : q % 2 * b ≤ 1 * b = mul-le-mul_right b one in
            rw (even_half a b q from below e) (omega arith, omega arith)
      ]
    ]

pub rounded_close : (w n c : ℕ) → digit_count w ≡ c → (2 * (rounded w n * 10 ^ c) ≤ 2 * (w * 10 ^ n) + 10 ^ c) × (2 * (w * 10 ^ n) ≤ 2 * (rounded w n * 10 ^ c) + 10 ^ c)
rounded_close w n c e = rw e (even_close (w * 10 ^ n) (10 ^ c) (ten_to_pos c))

-- n digits, or one more where they are all nines
most_of : (d w t c : ℕ) → w < c → 0 < t → 2 * (d * c) ≤ 2 * (w * t) + c → d ≤ t
most_of d w t c small some close =
    let high : w + 1 ≤ c = omega arith in
    let less : 2 * d * c < (2 * t + 1) * c = omega (arith, mul-le-mul_right t high) in
    omega (arith, lt_of_mul-lt-mul_right c less)

some_of : (d w t p c : ℕ) → p ≤ w → c ≡ p * 10 → 0 < p → 10 ≤ t → 2 * (w * t) ≤ 2 * (d * c) + c → 0 < d
some_of zero w t p c least ten some digits close =
    let a : p * t ≤ w * t = mul-le-mul_right t least in
    let b : p * 10 ≤ p * t = mul-le-mul_left p digits in
    absurd (omega arith)
some_of (suc d) w t p c least ten some digits close = omega arith

pub rounded_size : (w n c : ℕ) → 1 ≤ n → HasCount w c → (0 < rounded w n) × (rounded w n ≤ 10 ^ n)
rounded_size w n c some count =
    let close = rounded_close w n (suc c) count.is in (
      some_of (rounded w n) w (10 ^ n) (10 ^ c) (10 ^ suc c) count.from (pow-suc 10 c) (ten_to_pos c) (ten_at n some) close.1,
      most_of (rounded w n) w (10 ^ n) (10 ^ suc c) count.below (ten_to_pos n) close.0,
    )
  where
    ten_at : (r : ℕ) → 1 ≤ r → 10 ≤ 10 ^ r
    ten_at zero h = absurd (omega arith)
    ten_at (suc r) h = omega (arith, pow-suc 10 r, ten_to_pos r)

-- ---- from the first 18 digits
-- u is the unit of the last digit that is kept, t what it is worth, and w / c times 10 ^ 18 has the whole part first and the rest s / c
module _ (w t c u half first s q rest : ℕ) (split : w * 10 ^ 18 ≡ first * c + s) (less : s < c) (tens : t * u ≡ 10 ^ 18) (unit : u ≡ 2 * half) (cut : first ≡ q * u + rest) (small : rest < u) where
  scaled : w * t * u ≡ q * u * c + rest * c + s
  scaled = omega (arith, ap (λ n. w * n) tens, split, ap (λ n. n * c) cut)

  positive : 0 < u
  positive = omega arith

  from : q * c ≤ w * t
  from = le_of_mul-le-mul_right {k = u} (omega (arith, scaled)) positive

  below : w * t < (q + 1) * c
  below =
      let next : rest + 1 ≤ u = omega arith in
      lt_of_mul-lt-mul_right u (omega (arith, scaled, mul-le-mul_right c next))

  units : u * c ≡ 2 * (half * c)
  units = ap (λ n. n * c) unit ∙ omega arith

  pub first_down : rest < half → nearest_even (w * t) c ≡ q
  first_down h =
      let next : rest + 1 ≤ half = omega arith in
      let under : 2 * (w * t) < 2 * (q * c) + c = lt_of_mul-lt-mul_right u (omega (arith, scaled, mul-le-mul_right c next, units)) in
      even_down (w * t) c q from below under

  pub first_up : half < rest → nearest_even (w * t) c ≡ q + 1
  first_up h =
      let next : half + 1 ≤ rest = omega arith in
      let over : 2 * (q * c) + c < 2 * (w * t) = lt_of_mul-lt-mul_right u (omega (arith, scaled, mul-le-mul_right c next, units)) in
      even_up (w * t) c q from below over

  pub first_more : half ≡ rest → 0 < s → nearest_even (w * t) c ≡ q + 1
  first_more h more =
      let over : 2 * (q * c) + c < 2 * (w * t) = lt_of_mul-lt-mul_right u (omega (arith, scaled, ap (λ n. n * c) h, units)) in
      even_up (w * t) c q from below over

  pub first_half : half ≡ rest → s ≡ 0 → nearest_even (w * t) c ≡ q + q % 2
  first_half h none =
      let at : 2 * (w * t) * u ≡ (2 * (q * c) + c) * u = omega (arith, scaled, ap (λ n. n * c) h, units) in
      even_half (w * t) c q from below (eq_of_mul-eq-mul_right u positive (2 * (w * t)) (2 * (q * c) + c) at)
