-- The first digits of a number, from the limbs at its top.
use Rattle.std.proofs.Common.{◌≡◌, ℕ, zero, suc, ◌+◌, ◌-◌, ◌*◌, ◌/◌, ◌%◌, ◌^◌, ◌<◌, ◌≤◌, refl, sym, ap, ◌∙◌, arith, pow-add, pow-suc, mul-pos, mul-le-mul_left, mul-le-mul_right, lt_of_mul-lt-mul_right, mul-div_cancel, div-add-mod', mod-lt, Bool, eqb, ◌&&◌, eq-eqb, ne_eqb, zero-lt-suc, inl, inr}
use Rattle.std.proofs.lemmas.Bool.{cases_eq}
use Rattle.std.proofs.lemmas.Nat.{mod-mul-add}
use Rattle.fast_float.proofs.ExactLemmas.{ten_to_pos}
use Rattle.otel_float.specs.FloatText.{digit_count}
use Rattle.otel_float.specs.Leading.{first_digits, is_exact}
use Rattle.otel_float.proofs.Rounding.{quotient}
use Rattle.otel_float.proofs.Counting.{digit_count_is}

-- the power of ten d divides 10 ^ 18
cofactor : (c : ℕ) → c ≤ 18 → 10 ^ 18 / 10 ^ c * 10 ^ c ≡ 10 ^ 18
cofactor c h =
    let sum : 18 - c + c ≡ 18 = omega arith in
    let whole : 10 ^ (18 - c) * 10 ^ c ≡ 10 ^ 18 = sym (pow-add 10 (18 - c) c) ∙ ap (λ n. 10 ^ n) sum in
    ap (λ n. n / 10 ^ c * 10 ^ c) (sym whole) ∙ ap (λ n. n * 10 ^ c) (mul-div_cancel (10 ^ (18 - c)) (ten_to_pos c)) ∙ whole

abbrev first : ℕ → ℕ → ℕ → ℕ
first t r d = t * (10 ^ 18 / d) + r / d

-- t is at the top, over r of 18 digits, and d is a power of ten above t
module _ (t r c d : ℕ) (power : d ≡ 10 ^ c) (few : c ≤ 9) where
  positive : 0 < d
  positive = rw power (ten_to_pos c)

  split : first t r d * d + r % d ≡ 10 ^ 18 * t + r
  split =
      let whole : 10 ^ 18 / d * d ≡ 10 ^ 18 = rw power (cofactor c (omega arith)) in
      omega (arith, ap (λ x. t * x) whole, div-add-mod' r d)

  pub small_first : r < 10 ^ 18 → t < d → first t r d < 10 ^ 18
  small_first rest above =
      let high : t + 1 ≤ d = omega arith in
      let next : (t + 1) * 10 ^ 18 ≤ d * 10 ^ 18 = mul-le-mul_right (10 ^ 18) high in
      lt_of_mul-lt-mul_right d (omega (arith, split, next))

-- n * 10 ^ 18 is low, and above it p times what the three limbs at the top hold
module _ (n p low t r c d : ℕ) (value : n * 10 ^ 18 ≡ low + p * (r + 10 ^ 18 * t)) (small : low < p) (rest : r < 10 ^ 18) (power : d ≡ 10 ^ c) (above : t < d) (least : d ≤ t * 10) (few : c ≤ 9) (some : 1 ≤ c) where
  from : p * t ≤ n
  from = omega (arith, value)

  below : n < p * (t + 1)
  below =
      let most : r + 1 ≤ 10 ^ 18 = omega arith in
      omega (arith, value, mul-le-mul_left p most)

  tens : 10 ^ (c - 1) * 10 ≡ d
  tens = let s : c ≡ suc (c - 1) = omega arith in sym (pow-suc 10 (c - 1)) ∙ ap (λ k. 10 ^ k) (sym s) ∙ sym power

  pub counted : (j : ℕ) → p ≡ 10 ^ (9 * j) → digit_count n ≡ 9 * j + c
  counted j is =
      let one : 10 ^ (c - 1) ≤ t = omega (arith, tens) in
      let high : t + 1 ≤ d = omega arith in
      let low_end : 10 ^ (9 * j + (c - 1)) ≤ n = rw (pow-add 10 (9 * j) (c - 1), ← is) (omega (arith, mul-le-mul_left p one, from)) in
      let up : suc (9 * j + (c - 1)) ≡ 9 * j + c = omega arith in
      let high_end : n < 10 ^ suc (9 * j + (c - 1)) = rw (up, pow-add 10 (9 * j) c, ← is, ← power) (omega (arith, mul-le-mul_left p high, below)) in
      digit_count_is (9 * j + (c - 1)) n low_end high_end ∙ up

  bottom : (j : ℕ) → p ≡ 10 ^ (9 * j) → 10 ^ digit_count n ≡ p * d
  bottom j is = ap (λ k. 10 ^ k) (counted j is) ∙ pow-add 10 (9 * j) c ∙ rw (← is, ← power) refl

  pub leads : (j : ℕ) → p ≡ 10 ^ (9 * j) → first_digits n ≡ first t r d
  unfolding first_digits
  leads j is =
      let cut = split t r c d power few in
      let lower : first t r d * d ≤ 10 ^ 18 * t + r = omega (arith, cut) in
      let upper : 10 ^ 18 * t + r + 1 ≤ (first t r d + 1) * d = omega (arith, cut, mod-lt r (positive t r c d power few)) in
      ap (λ k. n * 10 ^ 18 / k) (bottom j is)
      ∙ quotient (first t r d) (n * 10 ^ 18) (p * d) (omega (arith, mul-le-mul_left p lower, value)) (omega (arith, mul-le-mul_left p upper, value))

  -- what is left over
  rest_is : (j : ℕ) → p ≡ 10 ^ (9 * j) → n * 10 ^ 18 % 10 ^ digit_count n ≡ low + p * (r % d)
  rest_is j is =
      let cut = split t r c d power few in
      let sum : n * 10 ^ 18 ≡ first t r d * (p * d) + (low + p * (r % d)) = omega (arith, value, ap (λ x. p * x) cut) in
      let next : r % d + 1 ≤ d = omega (arith, mod-lt r (positive t r c d power few)) in
      let less : low + p * (r % d) < p * d = omega (arith, mul-le-mul_left p next) in
      ap (λ k. n * 10 ^ 18 % k) (bottom j is) ∙ ap (λ x. x % (p * d)) sum ∙ mod-mul-add (first t r d) (p * d) (low + p * (r % d)) less

  pub exact : (j : ℕ) → p ≡ 10 ^ (9 * j) → is_exact n ≡ eqb (low + p * (r % d)) 0
  unfolding is_exact
  exact j is = ap (λ x. eqb x 0) (rest_is j is)

  pub tested : (b : Bool) → b ≡ (eqb (r % d) 0 && eqb low 0) → b ≡ eqb (low + p * (r % d)) 0
  tested b e = e ∙ both (r % d) low (low + p * (r % d)) (λ x y. omega (arith, ap (λ k. p * k) x)) (λ z. (omega (arith, z), none p (r % d) (omega arith) (omega (arith, z))))
    where
      none : (p x : ℕ) → 0 < p → p * x ≡ 0 → x ≡ 0
      none p zero h e = refl
      none p (suc x) h e = absurd (omega (arith, mul-pos h (zero-lt-suc x)))

      both : (x y z : ℕ) → (x ≡ 0 → y ≡ 0 → z ≡ 0) → (z ≡ 0 → (y ≡ 0) × (x ≡ 0)) → (eqb x 0 && eqb y 0) ≡ eqb z 0
      both x y z to back =
          elim (cases_eq z 0) [
            | inl a ↦ rw (eq-eqb x 0 (back a).1, eq-eqb y 0 (back a).0, eq-eqb z 0 a) refl
            | inr a ↦ elim (cases_eq x 0) [
              | inl b ↦ rw (eq-eqb x 0 b, ne_eqb z 0 a, ne_eqb y 0 (λ g. a (to b g))) refl
              | inr b ↦ rw (ne_eqb x 0 b, ne_eqb z 0 a) refl
            ]
          ]
