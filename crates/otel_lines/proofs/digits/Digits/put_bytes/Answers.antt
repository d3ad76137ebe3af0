use Rattle.std.proofs.Common.{length, drop, arith, length-append, ap}
use Rattle.std.proofs.lemmas.Str.{IsAscii-append}
use Rattle.otel_lines.specs.HexBytes.{bytes_text}
use Rattle.otel_lines.proofs.HexBytesLemmas.{length_bytes_text, IsAscii_bytes_text}
use Rattle.otel_lines.proofs.digits.Digits.put_bytes.Goals as goal

pub invariant_of-self : goal.invariant_of-self
invariant_of-self c =
    let w = c.write_bytes-self-inside in (
      omega arith,
      rw w.ensures.written
          (IsAscii-append (bytes_text c.args.bytes.now) (drop c.self.inside.begin c.self.inside.buffer) (IsAscii_bytes_text c.args.bytes.now (λ i. (c.type_inv.bytes i).fits)) c.self.invariant.1),
    )

pub returns-clause-length : goal.returns-clause-length
returns-clause-length c =
    let w = c.write_bytes-self-inside in
    let seen = ap length c.self.view_is in
    rw w.ensures.written (omega (arith, length_bytes_text c.args.bytes.now, length-append (bytes_text c.args.bytes.now) (drop c.self.inside.begin c.self.inside.buffer)))
