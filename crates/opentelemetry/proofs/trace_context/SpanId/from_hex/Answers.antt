use Rattle.std.proofs.Common.{Ok, ap, sym, subst, ◌∙◌}
use Rattle.opentelemetry.specs.Hex.{IsHexText}
use Rattle.opentelemetry.proofs.HexRead.{hex_text_injective, hex_text_IsHexText}
use Rattle.opentelemetry.proofs.trace_context.SpanId.from_hex.Goals as goal

pub returns-in-Some-clause-reads_back : goal.returns-in-Some-clause-reads_back
returns-in-Some-clause-reads_back c = λ id small same. ap Ok (hex_text_injective 16 c.in-Some.number id c.in-Some.ensures.value.0 small (sym c.in-Some.ensures.value.1 ∙ same))

pub returns-in-None-clause-reads_back : goal.returns-in-None-clause-reads_back
returns-in-None-clause-reads_back c = λ id small same. let no = c.in-None.ensures.only.1 (subst (IsHexText 16) (sym same) (hex_text_IsHexText 16 id)) in cc
