use Rattle.std.proofs.Common.{◌≡◌, ◌+◌, ◌*◌, ◌/◌, ◌%◌, ◌^◌, ◌<◌, length, get_or, ◌∙◌, arith}
use Rattle.std.proofs.lemmas.List.{get_or-set_other}
use Rattle.otel_float.proofs.LimbsLemmas.{multiplied, product_small, AreLimbs-set}
use Rattle.otel_float.proofs.limbs.multiply.Goals as goal

pub loop-i-preserved : goal.loop-i-preserved
loop-i-preserved c =
    let l = c.loop-i in
    let v = l.invariant in
    let x = c.from.result in
    let sum = x * c.args.factor + l.carry in
    let here : x ≡ get_or c.args.limbs.now l.i 0 = c.from.ensures ∙ v.rest l.i (omega arith) in
    let within : l.i < length l.limbs = omega arith in
    let nine : x < 10 ^ 9 = omega (arith, v.limbs l.i, c.from.ensures) in
    let fits : sum < 10 ^ 18 = product_small x c.args.factor l.carry nine (omega arith) v.small in
    record {
      value = multiplied c.args.limbs.now l.limbs l.i x c.args.factor l.carry (sum % 10 ^ 9) (sum / 10 ^ 9) c.loop-i-test.true within here (omega arith) v.value;
      limbs = AreLimbs-set l.limbs l.i (sum % 10 ^ 9) within v.limbs (omega arith);
      small = omega arith;
      rest = λ k h. get_or-set_other l.limbs l.i k (sum % 10 ^ 9) 0 (λ e. omega arith) ∙ v.rest k (omega arith);
    }
