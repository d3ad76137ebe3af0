use Rattle.std.proofs.Common.{◌≡◌, ℕ, ◌+◌, ◌-◌, ◌*◌, ◌^◌, ap, ◌∙◌, arith}
use Rattle.otel_float.specs.FloatText as float
use Rattle.otel_float.proofs.decimal.leading_of.Goals as goal

-- the powers that were multiplied in
scaled : (bits s e p up started doubled all : ℕ) → s ≡ float.significand bits → e ≡ float.exponent bits → p ≡ 1074 - e → up ≡ e - 1074 → started ≡ s * 10 ^ 18 → doubled ≡ started * 2 ^ up → all ≡ doubled * 5 ^ p → all ≡ float.whole bits * 10 ^ 18
unfolding float.whole
scaled bits s e p up started doubled all es ee ep eu e1 e2 e3 =
    let places : p ≡ 1074 - float.exponent bits = ep ∙ ap (λ x. 1074 - x) ee in
    let ups : up ≡ float.exponent bits - 1074 = eu ∙ ap (λ x. x - 1074) ee in
    e3 ∙ ap (λ x. x * 5 ^ p) (e2 ∙ ap (λ x. x * 2 ^ up) (e1 ∙ ap (λ x. x * 10 ^ 18) es))
    ∙ ap (λ x. float.significand bits * 10 ^ 18 * 2 ^ x * 5 ^ p) ups
    ∙ ap (λ x. float.significand bits * 10 ^ 18 * 2 ^ (float.exponent bits - 1074) * 5 ^ x) places
    ∙ omega arith

placed : (bits count p at : ℕ) → count ≡ float.digit_count (float.whole bits) → p ≡ float.places bits → at ≡ 400 + count - p → at ≡ float.point bits
unfolding float.point
placed bits count p at ec ep e = e ∙ ap (λ x. 400 + x - p) ec ∙ ap (λ x. 400 + float.digit_count (float.whole bits) - x) ep

pub returns : goal.returns
returns c =
    let e = scaled c.args.bits _ _ _ _ _ _ _ c.significand.ensures.value c.exponent-exponent.ensures.value c.saturating_sub-places.ensures c.saturating_sub.ensures c.start-len.ensures.value c.times_power-doubled.ensures.value c.times_power-whole.ensures.value in
    let places = c.saturating_sub-places.ensures ∙ ap (λ x. 1074 - x) c.exponent-exponent.ensures.value in
    let f = c.first_digits-digits.ensures in
    record {
      digits = f.digits (float.whole c.args.bits) e;
      exact = f.exact (float.whole c.args.bits) e;
      point = placed c.args.bits _ _ _ (f.count (float.whole c.args.bits) e) places c.saturating_sub-2.ensures;
      small = f.small;
      near = omega (arith, f.few, c.saturating_sub-2.ensures);
    }
