-- A number below ten is one digit, a character of ASCII.
use Rattle.std.proofs.Common.{arith}
use Rattle.std.proofs.lemmas.Fmt.{decimal_digit}
use Rattle.std.proofs.lemmas.Grind.{common_steps}
use Rattle.otel_lines.proofs.digits.push_decimal.Goals as goal

pub returns-then-number-lt10 : goal.returns-then-number-lt10
returns-then-number-lt10 c =
    let digit = decimal_digit c.args.number c.if-number-lt10.true in
    let byte = c.push.ensures.ascii (omega arith) in
    grind (arith, common_steps)
