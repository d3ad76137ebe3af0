use Rattle.std.proofs.Common.{◌≡◌, ℕ, ◌+◌, ◌-◌, ◌*◌, ◌/◌, ◌%◌, ◌^◌, ◌<◌, ◌≤◌, Bool, eqb, ◌&&◌, List, get_or, take, refl, sym, ap, ◌∙◌, arith}
use Rattle.otel_float.specs.FloatText.{digit_count}
use Rattle.otel_float.specs.Leading.{first_digits, is_exact}
use Rattle.otel_float.specs.Limbs.{AreInUse, AreLimbs, limbs_value, value_of}
use Rattle.otel_float.proofs.LimbsLemmas.{front_below, three_more}
use Rattle.otel_float.proofs.Leading.{small_first, counted, leads, exact, tested}
use Rattle.otel_float.proofs.decimal.first_digits.Goals as goal

top_value : (xs : List ℕ) (len a b t : ℕ) → AreInUse xs len → t ≡ get_or xs (len - 1) 0 → a ≡ get_or xs (len - 2) 0 → b ≡ get_or xs (len - 3) 0
    → value_of xs len ≡ limbs_value (take (len - 3) xs) + 10 ^ (9 * (len - 3)) * (a * 10 ^ 9 + b + 10 ^ 18 * t)
unfolding value_of
top_value xs len a b t in_use et ea eb =
    let j = len - 3 in
    let all : j + 3 ≡ len = omega (arith, in_use.some) in
    let one : len - 2 ≡ j + 1 = omega (arith, in_use.some) in
    let two : len - 1 ≡ j + 2 = omega (arith, in_use.some) in
    ap (λ n. limbs_value (take n xs)) (sym all)
    ∙ three_more xs j a b t (omega (arith, in_use.some, in_use.room)) eb (ea ∙ ap (λ i. get_or xs i 0) one) (et ∙ ap (λ i. get_or xs i 0) two)

nine : (xs : List ℕ) (i x : ℕ) → AreLimbs xs → x ≡ get_or xs i 0 → x < 10 ^ 9
nine xs i x h e = omega (arith, h i, e)

module _ (xs : List ℕ) (len a b t c d n : ℕ) (in_use : AreInUse xs len) (limbs : AreLimbs xs) (et : t ≡ get_or xs (len - 1) 0) (ea : a ≡ get_or xs (len - 2) 0) (eb : b ≡ get_or xs (len - 3) 0)
    (value : value_of xs len ≡ n * 10 ^ 18) (power : d ≡ 10 ^ c) (above : t < d) (least : d ≤ t * 10) (some : 1 ≤ c) (few : c ≤ 9) where
  abbrev p : ℕ
  p = 10 ^ (9 * (len - 3))

  abbrev r : ℕ
  r = a * 10 ^ 9 + b

  small_rest : r < 10 ^ 18
  small_rest = omega (arith, nine xs (len - 2) a limbs ea, nine xs (len - 3) b limbs eb)

  low_small : limbs_value (take (len - 3) xs) < p
  low_small = front_below xs (len - 3) limbs (omega (arith, in_use.room))

  sum : n * 10 ^ 18 ≡ limbs_value (take (len - 3) xs) + p * (r + 10 ^ 18 * t)
  sum = sym value ∙ top_value xs len a b t in_use et ea eb

  digits_are : t * (10 ^ 18 / d) + r / d ≡ first_digits n
  digits_are = sym (leads n p _ t r c d sum low_small small_rest power above least few some (len - 3) refl)

  count_is : 9 * (len - 3) + c ≡ digit_count n
  count_is = sym (counted n p _ t r c d sum low_small small_rest power above least few some (len - 3) refl)

  exact_is : (z : Bool) → z ≡ eqb (limbs_value (take (len - 3) xs)) 0 → (eqb (r % d) 0 && z) ≡ is_exact n
  exact_is z e =
      tested n p _ t r c d sum low_small small_rest power above least few some (eqb (r % d) 0 && z) (ap (λ k. eqb (r % d) 0 && k) e)
      ∙ sym (exact n p _ t r c d sum low_small small_rest power above least few some (len - 3) refl)

pub returns-clause-digits : goal.returns-clause-digits
returns-clause-digits c = λ n value. let k = c.above-count.ensures in digits_are c.args.limbs.now c.args.len c.from.result c.from-2.result c.from-top.result c.above-count.result.0 c.above-count.result.1 n c.requires.in_use c.requires.limbs c.from-top.ensures c.from.ensures c.from-2.ensures value k.power k.above k.least k.few.0 k.few.1

pub returns-clause-count : goal.returns-clause-count
returns-clause-count c = λ n value. let k = c.above-count.ensures in count_is c.args.limbs.now c.args.len c.from.result c.from-2.result c.from-top.result c.above-count.result.0 c.above-count.result.1 n c.requires.in_use c.requires.limbs c.from-top.ensures c.from.ensures c.from-2.ensures value k.power k.above k.least k.few.0 k.few.1

pub returns-clause-exact : goal.returns-clause-exact
returns-clause-exact c = λ n value. let k = c.above-count.ensures in exact_is c.args.limbs.now c.args.len c.from.result c.from-2.result c.from-top.result c.above-count.result.0 c.above-count.result.1 n c.requires.in_use c.requires.limbs c.from-top.ensures c.from.ensures c.from-2.ensures value k.power k.above k.least k.few.0 k.few.1 _ c.is_zero.ensures

pub returns-clause-small : goal.returns-clause-small
returns-clause-small c =
    let xs = c.args.limbs.now in
    let len = c.args.len in
    let a = c.from.result in
    let b = c.from-2.result in
    let k = c.above-count in
    let rest : a * 10 ^ 9 + b < 10 ^ 18 = omega (arith, nine xs (len - 2) a c.requires.limbs c.from.ensures, nine xs (len - 3) b c.requires.limbs c.from-2.ensures) in
    small_first c.from-top.result (a * 10 ^ 9 + b) k.result.0 k.result.1 k.ensures.power k.ensures.few.1 rest k.ensures.above
