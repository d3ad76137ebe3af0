use Rattle.std.proofs.Common.{Some, ◌∙◌, subst, ap, arith}
use Rattle.std.specs.Fmt.{DisplaysOnOk}
use Rattle.opentelemetry.specs.Hex.{hex_text}
use Rattle.opentelemetry.proofs.HexText.{shown_hex, hex_sixteen}
use Rattle.opentelemetry.proofs.trace_context.SpanIdDisplay.fmt.Goals as goal

pub returns-clause-writes : goal.returns-clause-writes
returns-clause-writes g c =
    subst (λ o. DisplaysOnOk g.W.Write.write_str_gives c.args.f.now c.write.result o c.write.new.self)
    (shown_hex c.in_radix.result c.laid_out.result 16 c.self.inside.0 c.in_radix.ensures c.laid_out.ensures ∙ ap Some (hex_sixteen c.self.inside.0 (omega arith)) ∙ ap (λ n. Some (hex_text 16 n)) c.self.view_is)
    c.write.ensures.writes
