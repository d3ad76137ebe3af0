use Rattle.std.proofs.Common.{◌≡◌, ◌+◌, ◌%◌, set, arith, length-set}
use Rattle.std.proofs.lemmas.List.{set_comm, drop-set}
use Rattle.opentelemetry.specs.Hex.{hex_digit}
use Rattle.otel_lines.proofs.HexBytesLemmas.{BYTES_at}
use Rattle.otel_lines.proofs.digits.write_byte.Goals as goal

pub returns : goal.returns
returns c =
    let digits = BYTES_at c.args.byte (omega arith) in
    let at = c.args.at in
    let buffer = c.args.buffer.now in
    let low = set buffer (at + 1) (hex_digit (c.args.byte % 16)) in
    let next : at + 1 + 1 ≡ at + 2 = omega arith in
    rw (digits.0, digits.1, set_comm buffer at (at + 1) _ _ (λ x. omega arith), drop-set low at _ (omega (arith, length-set buffer (at + 1) (hex_digit (c.args.byte % 16)))), drop-set buffer (at + 1) _ (omega arith), next)
