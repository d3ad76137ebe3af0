use Rattle.std.proofs.Common.{sym, ◌∙◌, subst, arith}
use Rattle.opentelemetry.specs.Hex.{IsHexText}
use Rattle.opentelemetry.proofs.HexRead.{hex_text_injective, hex_text_IsHexText}
use Rattle.otel_propagators.proofs.b3.read.read_span_id.Goals as goal

pub returns-in_err-number : goal.returns-in_err-number
returns-in_err-number c =
    rw c.from_residual.ensures (λ id is. let no = c.in_err-number.ensures.only.1 (subst (IsHexText 16) (sym is.2) (hex_text_IsHexText 16 id)) in absurd cc)

pub returns-then-number-eq0 : goal.returns-then-number-eq0
returns-then-number-eq0 c = λ id is.
    let value = c.in_ok-number.ensures.value in
    let same = hex_text_injective 16 id c.in_ok-number.number is.1 value.0 (sym is.2 ∙ value.1) in
    absurd (omega (arith, is.0, same, c.if-number-eq0.true))
