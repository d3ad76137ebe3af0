use Rattle.std.proofs.Common.{◌++◌, ap, ◌∙◌, arith}
use Rattle.opentelemetry.specs.Hex.{hex_text}
use Rattle.otel_lines.proofs.HexBytesLemmas.{text_of_flags}
use Rattle.otel_lines.proofs.digits.Digits.put_flags.Goals as goal

pub returns-clause-front : goal.returns-clause-front
returns-clause-front c =
    c.put_bytes.ensures.front ∙ ap (λ t. t ++ c.args.self.now)
    (text_of_flags c.to_u8.result (omega arith) ∙ ap (λ n. hex_text 2 n) c.to_u8.ensures)
