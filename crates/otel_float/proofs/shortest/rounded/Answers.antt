use Rattle.std.proofs.Common.{◌≡◌, ℕ, suc, ◌+◌, ◌-◌, ◌*◌, ◌/◌, ◌%◌, ◌^◌, ◌<◌, ◌≤◌, true, false, sym, ap, ◌∙◌, arith, pow-add, pow-suc, div-add-mod', mod-lt, eqb-true}
use Rattle.std.proofs.lemmas.Bool.{eqb-false}
use Rattle.fast_float.proofs.ExactLemmas.{ten_to_pos}
use Rattle.otel_float.specs.FloatText.{whole, digit_count, rounded}
use Rattle.otel_float.specs.Leading.{first_digits, is_exact}
use Rattle.otel_float.proofs.Rounding.{first_down, first_up, first_more, first_half}
use Rattle.otel_float.proofs.shortest.rounded.Goals as goal

even_unit : (k u : ℕ) → 1 ≤ k → u ≡ 10 ^ k → u ≡ 2 * (u / 2)
even_unit k u some e =
    let more : k ≡ suc (k - 1) = omega arith in
    let ten : u ≡ 10 ^ (k - 1) * 10 = e ∙ ap (λ j. 10 ^ j) more ∙ pow-suc 10 (k - 1) in
    omega arith

module _ (w n u digits : ℕ) (unit : u ≡ 10 ^ (18 - n)) (few : n ≤ 17) (leads : digits ≡ first_digits w) where
  split : w * 10 ^ 18 ≡ first_digits w * 10 ^ digit_count w + w * 10 ^ 18 % 10 ^ digit_count w
  unfolding first_digits
  split = sym (div-add-mod' (w * 10 ^ 18) (10 ^ digit_count w))

  less : w * 10 ^ 18 % 10 ^ digit_count w < 10 ^ digit_count w
  less = mod-lt (w * 10 ^ 18) (ten_to_pos (digit_count w))

  tens : 10 ^ n * u ≡ 10 ^ 18
  tens = let sum : n + (18 - n) ≡ 18 = omega arith in ap (λ k. 10 ^ n * k) unit ∙ sym (pow-add 10 n (18 - n)) ∙ ap (λ k. 10 ^ k) sum

  even : u ≡ 2 * (u / 2)
  even = even_unit (18 - n) u (omega arith) unit

  some : 0 < u
  some = rw unit (ten_to_pos (18 - n))

  cut : first_digits w ≡ digits / u * u + digits % u
  cut = sym leads ∙ sym (div-add-mod' digits u)

  small : digits % u < u
  small = mod-lt digits some

  down : digits % u < u / 2 → digits / u ≡ rounded w n
  down h = sym (first_down w (10 ^ n) (10 ^ digit_count w) u (u / 2) (first_digits w) _ (digits / u) (digits % u) split less tens even cut small h)

  up : u / 2 < digits % u → digits / u + 1 ≡ rounded w n
  up h = sym (first_up w (10 ^ n) (10 ^ digit_count w) u (u / 2) (first_digits w) _ (digits / u) (digits % u) split less tens even cut small h)

  half : u / 2 ≡ digits % u → is_exact w ≡ true → digits / u + digits / u % 2 ≡ rounded w n
  unfolding is_exact
  half h e = sym (first_half w (10 ^ n) (10 ^ digit_count w) u (u / 2) (first_digits w) _ (digits / u) (digits % u) split less tens even cut small h (eqb-true _ 0 e))

  more : u / 2 ≡ digits % u → is_exact w ≡ false → digits / u + 1 ≡ rounded w n
  unfolding is_exact
  more h e =
      let above : 0 < w * 10 ^ 18 % 10 ^ digit_count w = positive _ (eqb-false _ 0 e) in
      sym (first_more w (10 ^ n) (10 ^ digit_count w) u (u / 2) (first_digits w) _ (digits / u) (digits % u) split less tens even cut small h above)
    where
      positive : (s : ℕ) → ¬ (s ≡ 0) → 0 < s
      positive s h = omega arith

pub returns-then-rest-unit : goal.returns-then-rest-unit
returns-then-rest-unit c = down (whole c.args.bits) c.args.count c.ten_to-unit.result c.args.leading.digits c.ten_to-unit.ensures.value (omega arith) c.requires.leading.digits c.if-rest-unit.true

pub returns-then-rest-unit-2 : goal.returns-then-rest-unit-2
returns-then-rest-unit-2 c = up (whole c.args.bits) c.args.count c.ten_to-unit.result c.args.leading.digits c.ten_to-unit.ensures.value (omega arith) c.requires.leading.digits (omega arith)

pub returns-then-leading : goal.returns-then-leading
returns-then-leading c =
    half (whole c.args.bits) c.args.count c.ten_to-unit.result c.args.leading.digits c.ten_to-unit.ensures.value (omega arith) c.requires.leading.digits (omega arith) (sym c.requires.leading.exact ∙ c.if-leading.true)

pub returns-else-leading : goal.returns-else-leading
returns-else-leading c =
    more (whole c.args.bits) c.args.count c.ten_to-unit.result c.args.leading.digits c.ten_to-unit.ensures.value (omega arith) c.requires.leading.digits (omega arith) (sym c.requires.leading.exact ∙ c.if-leading.false)
