use Rattle.std.proofs.Common.{sym, arith, eq-eqb, ne_eqb}
use Rattle.otel_float.specs.Limbs.{limbs_value}
use Rattle.otel_float.proofs.LimbsLemmas.{value_zero, value_some}
use Rattle.otel_float.proofs.limbs.is_zero.Goals as goal

pub returns-then-limb-ne0 : goal.returns-then-limb-ne0
returns-then-limb-ne0 c =
    let more = value_some c.args.limbs.now c.loop-limb.limb-index (omega arith) in
    sym (ne_eqb (limbs_value c.args.limbs.now) 0 (λ e. omega arith))

pub returns : goal.returns
returns c = sym (eq-eqb (limbs_value c.args.limbs.now) 0 (value_zero c.args.limbs.now (λ k h. c.loop-limb.invariant k (omega arith))))
