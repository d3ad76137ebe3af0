use Rattle.std.proofs.Common.{length, drop, arith, length-drop, length-append, ap}
use Rattle.std.specs.Fmt.{decimal}
use Rattle.std.proofs.lemmas.Fmt.{length-decimal-le, IsAscii-decimal}
use Rattle.std.proofs.lemmas.Str.{IsAscii-append}
use Rattle.otel_lines.proofs.digits.Digits.put_decimal.Goals as goal

pub write_digits-self-inside-requires : goal.write_digits-self-inside-requires
write_digits-self-inside-requires c =
    let short = length-decimal-le 20 c.args.number (omega arith) (omega arith) (omega arith) in
    let room = length-drop c.self.inside.begin c.self.inside.buffer in
    let seen = ap length c.self.view_is in
    omega arith

pub invariant_of-self : goal.invariant_of-self
invariant_of-self c =
    let w = c.write_digits-self-inside in (
      omega arith,
      rw w.ensures.written
          (IsAscii-append (decimal c.args.number) (drop c.self.inside.begin c.self.inside.buffer) (IsAscii-decimal c.args.number (omega arith)) c.self.invariant.1),
    )

pub returns-clause-length : goal.returns-clause-length
returns-clause-length c =
    let short = length-decimal-le 20 c.args.number (omega arith) (omega arith) (omega arith) in
    let w = c.write_digits-self-inside in
    let seen = ap length c.self.view_is in
    rw w.ensures.written (omega (arith, length-append (decimal c.args.number) (drop c.self.inside.begin c.self.inside.buffer)))
