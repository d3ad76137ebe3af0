-- How many digits a number has, and its first ones.
use Rattle.std.proofs.Common.{◌≡◌, ℕ, zero, suc, ◌/◌, ◌^◌, ◌<◌, ◌≤◌, refl, ap, ◌∙◌, inl, inr, arith, ne_eqb, pow-suc}
use Rattle.std.proofs.lemmas.Bool.{cases_lt}
use Rattle.fast_float.proofs.ExactLemmas.{ten_to_pos}
use Rattle.otel_float.specs.FloatText.{count_up_to, digit_count}

count_zero : (most : ℕ) → count_up_to most 0 ≡ 0
unfolding count_up_to
count_zero zero = refl
count_zero (suc most) = refl

some_power : (c n : ℕ) → 10 ^ c ≤ n → 0 < n
some_power c n h = omega (arith, ten_to_pos c)

tenth : (c n : ℕ) → 10 ^ suc c ≤ n → n < 10 ^ suc (suc c) → (10 ^ c ≤ n / 10) × (n / 10 < 10 ^ suc c)
tenth c n from below = let a = pow-suc 10 c in let b = pow-suc 10 (suc c) in (omega arith, omega arith)

count_is : (c most n : ℕ) → 10 ^ c ≤ n → n < 10 ^ suc c → c < most → count_up_to most n ≡ suc c
unfolding count_up_to
count_is c zero n from below few = absurd (omega arith)
count_is zero (suc most) n from below few =
    let small : n < 10 = omega arith in
    let none : n / 10 ≡ 0 = omega arith in
    rw (ne_eqb n 0 (λ e. omega arith)) (ap suc (ap (count_up_to most) none ∙ count_zero most))
count_is (suc c) (suc most) n from below few =
    let some = some_power (suc c) n from in
    let t = tenth c n from below in
    rw (ne_eqb n 0 (λ e. omega arith)) (ap suc (count_is c most (n / 10) t.0 t.1 (omega arith)))

below_power : (c : ℕ) → c < 10 ^ c
below_power zero = omega arith
below_power (suc c) = omega (arith, below_power c, pow-suc 10 c)

pub digit_count_is : (c n : ℕ) → 10 ^ c ≤ n → n < 10 ^ suc c → digit_count n ≡ suc c
unfolding digit_count
digit_count_is c n from below = count_is c n n from below (omega (arith, below_power c))

pub record HasCount (n c : ℕ) : Type 0 where
  pub is : digit_count n ≡ suc c
  pub from : 10 ^ c ≤ n
  pub below : n < 10 ^ suc c

more : (c n : ℕ) → 10 ^ c ≤ n / 10 → n / 10 < 10 ^ suc c → (10 ^ suc c ≤ n) × (n < 10 ^ suc (suc c))
more c n from below = let a = pow-suc 10 c in let b = pow-suc 10 (suc c) in (omega arith, omega arith)

counted : (fuel n : ℕ) → n ≤ fuel → 0 < n → (c : ℕ) × (10 ^ c ≤ n) × (n < 10 ^ suc c)
counted zero n few some = absurd (omega arith)
counted (suc fuel) n few some =
    elim (cases_lt n 10) [
      | inl small ↦ (0, omega arith, omega arith)
      | inr large ↦
          let r = counted fuel (n / 10) (omega arith) (omega arith) in
          let m = more r.0 n r.1 r.2 in
          (suc r.0, m.0, m.1)
    ]

pub has_count : (n : ℕ) → 0 < n → (c : ℕ) × HasCount n c
has_count n some = let r = counted n n (omega arith) some in (r.0, record { is = digit_count_is r.0 n r.1 r.2; from = r.1; below = r.2 })
