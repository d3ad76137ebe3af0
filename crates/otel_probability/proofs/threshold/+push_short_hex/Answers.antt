use Rattle.std.proofs.Common.{arith}
use Rattle.otel_probability.proofs.Digits.{short_hex_zero, short_hex_one, short_hex_whole}
use Rattle.otel_probability.proofs.threshold.+push_short_hex.Goals.{else-count-gt1-via-then-count-gt1+else-number-eq0, else-count-gt1-via-else-count-gt1}
use Rattle.otel_probability.proofs.threshold.+push_short_hex.Goals as goal

pub returns : goal.returns
returns t c =
    elim c.else-count-gt1.branch [
      | else-count-gt1-via-then-count-gt1+else-number-eq0 w ↦ rw (short_hex_whole c.args.count c.args.number (λ e. omega arith)) c.push_hex.ensures
      | else-count-gt1-via-else-count-gt1 w ↦ rw (short_hex_one c.args.count c.args.number (omega arith)) c.push_hex.ensures
    ]

pub returns-then-number-eq0 : goal.returns-then-number-eq0
returns-then-number-eq0 t c = rw (short_hex_zero c.args.count c.args.number (omega arith) (omega arith)) c.push_short_hex.ensures
