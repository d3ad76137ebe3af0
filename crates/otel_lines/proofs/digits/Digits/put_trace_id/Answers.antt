use Rattle.std.proofs.Common.{◌++◌, ap, ◌∙◌}
use Rattle.otel_lines.specs.HexBytes.{bytes_text}
use Rattle.otel_lines.proofs.HexBytesLemmas.{text_of_trace_id}
use Rattle.otel_lines.proofs.digits.Digits.put_trace_id.Goals as goal

pub returns-clause-front : goal.returns-clause-front
returns-clause-front c =
    c.put_bytes.ensures.front ∙ ap (λ t. t ++ c.args.self.now) (ap bytes_text c.to_bytes.ensures ∙ text_of_trace_id c.args.id)
