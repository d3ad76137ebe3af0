use Rattle.std.proofs.Common.{rules}
use Rattle.otel_float.proofs.LimbsLemmas.{kept_value, kept_top, pushed_value, room_left, AreLimbs-append, AreLimbs-drop, AreLimbs-set}
use Rattle.otel_float.proofs.limbs.times.Goals as goal

pub returns-then-carry-eq0-clause-value : goal.returns-then-carry-eq0-clause-value
returns-then-carry-eq0-clause-value c =
    let m = c.multiply-carry in
    kept_value c.args.limbs.now m.new.limbs _ c.args.len c.args.factor m.result c.requires.in_use m.ensures.limbs m.auto.limbs c.requires.factor.0 m.ensures.value c.if-carry-eq0.true

pub returns-then-carry-eq0-clause-in_use : goal.returns-then-carry-eq0-clause-in_use
returns-then-carry-eq0-clause-in_use c =
    let m = c.multiply-carry in
    record {
      some = c.requires.in_use.some;
      room = room_left c.args.limbs.now m.new.limbs _ c.args.len c.args.factor m.result c.requires.in_use m.ensures.limbs m.auto.limbs c.requires.factor.0 m.ensures.value;
      top = kept_top c.args.limbs.now m.new.limbs _ c.args.len c.args.factor m.result c.requires.in_use m.ensures.limbs m.auto.limbs c.requires.factor.0 m.ensures.value c.if-carry-eq0.true;
    }

pub returns-clause-value : goal.returns-clause-value
returns-clause-value c =
    let m = c.multiply-carry in
    pushed_value c.args.limbs.now m.new.limbs _ c.args.len c.args.factor m.result c.requires.in_use m.ensures.limbs m.auto.limbs c.requires.factor.0 m.ensures.value (search rules)

pub returns-clause-limbs : goal.returns-clause-limbs
returns-clause-limbs c =
    let m = c.multiply-carry in
    let all = AreLimbs-append m.new.limbs _ m.ensures.limbs (AreLimbs-drop c.args.limbs.now c.args.len c.requires.limbs) in
    AreLimbs-set _ _ _ (search rules) all m.ensures.small
