use Rattle.std.proofs.Common.{Some, None, lit<, sym, subst, ◌∙◌}
use Rattle.std.proofs.lemmas.Str.Pattern.{split_after}
use Rattle.opentelemetry.specs.Hex.{hex_text, IsHexText}
use Rattle.opentelemetry.proofs.HexRead.{hex_text_injective, hex_text_IsHexText}
use Rattle.otel_propagation.proofs.TraceparentLemmas.{no_hyphen}
use Rattle.otel_propagation.proofs.propagation.trace_context.read_field.Goals as goal

pub returns-in_err-front-clause-only : goal.returns-in_err-front-clause-only
returns-in_err-front-clause-only c = λ number rest small is.
    absurd (split_after 45 c.args.text.now (hex_text c.args.digits number) rest None c.in_err-front.ensures.cases (lit< tt) is (no_hyphen c.args.digits number))

pub returns-in_err-number_from_hex-clause-only : goal.returns-in_err-number_from_hex-clause-only
returns-in_err-number_from_hex-clause-only c = λ number rest small is.
    let parts = split_after 45 c.args.text.now (hex_text c.args.digits number) rest (Some (c.in_ok-front.front, c.in_ok-front.after)) c.in_ok-front.ensures.cases (lit< tt) is (no_hyphen c.args.digits number) in
    absurd (let no = c.in_err-number_from_hex.ensures.only.1 (subst (IsHexText c.args.digits) (sym parts.0) (hex_text_IsHexText c.args.digits number)) in cc)

pub returns-clause-only : goal.returns-clause-only
returns-clause-only c = λ number rest small is.
    let parts = split_after 45 c.args.text.now (hex_text c.args.digits number) rest (Some (c.in_ok-front.front, c.in_ok-front.after)) c.in_ok-front.ensures.cases (lit< tt) is (no_hyphen c.args.digits number) in
    let value = c.in_ok-number_from_hex.ensures.value in
    (hex_text_injective c.args.digits c.in_ok-number_from_hex.field-0 number value.0 small (sym value.1 ∙ parts.0), parts.1)
