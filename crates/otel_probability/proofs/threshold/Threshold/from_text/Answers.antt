use Rattle.std.proofs.Common.{◌*◌, ◌-◌, ◌≤◌, ◌∙◌, length, arith, sym, ap, Some}
use Rattle.otel_probability.proofs.Digits.{no_threshold, power_fits, threshold_fits, written_threshold}
use Rattle.otel_probability.proofs.threshold.Threshold.from_text.Goals as goal

pub returns-in_err-front-clause-value : goal.returns-in_err-front-clause-value
returns-in_err-front-clause-value c =
    c.from_residual.ensures ∙ sym (no_threshold c.args.text.now (λ is. cc (c.in_err-front.ensures.only.1 is)))

pub overflow_cast-result : goal.overflow_cast-result
overflow_cast-result c =
    let count : length c.args.text.now ≤ 14 = omega arith in
    let small = power_fits (length c.args.text.now) count in
    omega (arith, c.in_ok-front.ensures.value.0, small)

pub pow-requires : goal.pow-requires
pow-requires c =
    let rest : 14 - length c.args.text.now ≤ 14 = omega arith in
    omega (arith, power_fits (14 - length c.args.text.now) rest)

pub overflow_mul-result : goal.overflow_mul-result
overflow_mul-result c =
    let count : length c.args.text.now ≤ 14 = omega arith in
    omega (arith, threshold_fits (length c.args.text.now) c.in_ok-front.front c.pow.result count c.in_ok-front.ensures.value.0 c.pow.ensures)

pub invariant_of-result : goal.invariant_of-result
invariant_of-result c =
    let count : length c.args.text.now ≤ 14 = omega arith in
    omega (arith, threshold_fits (length c.args.text.now) c.in_ok-front.front c.pow.result count c.in_ok-front.ensures.value.0 c.pow.ensures)

pub returns-clause-value : goal.returns-clause-value
returns-clause-value c =
    let some : 1 ≤ length c.args.text.now = omega arith in
    let count : length c.args.text.now ≤ 14 = omega arith in
    ap (λ p. Some (c.in_ok-front.front * p)) c.pow.ensures
    ∙ sym (written_threshold c.args.text.now c.in_ok-front.front some count c.in_ok-front.ensures.value.0 c.in_ok-front.ensures.value.1)

pub returns-clause-small : goal.returns-clause-small
returns-clause-small c =
    let count : length c.args.text.now ≤ 14 = omega arith in
    omega (arith, threshold_fits (length c.args.text.now) c.in_ok-front.front c.pow.result count c.in_ok-front.ensures.value.0 c.pow.ensures)
