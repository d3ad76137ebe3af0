use Rattle.std.proofs.Common.{Some, ap, ◌∙◌, subst}
use Rattle.std.specs.Str.{IsUtf8, trim}
use Rattle.otel_propagation.proofs.BaggageTextLemmas.{said, says_nothing, not_out_of_memory}
use Rattle.otel_propagation.proofs.propagation.baggage.read.decoded.Goals as goal

pub returns-in-Ok : goal.returns-in-Ok
returns-in-Ok c =
    let is = c.percent_decode_str.ensures.bytes in
    ap (λ t. Some (trim t)) (c.in-Ok.ensures.value ∙ is) ∙ said c.args.text.now (subst IsUtf8 is c.in-Ok.ensures.ok_only_if_utf8)

pub returns-in-Err-Utf8 : goal.returns-in-Err-Utf8
returns-in-Err-Utf8 c =
    says_nothing c.args.text.now (λ is. not_out_of_memory _ _ c.in-Err-Utf8.field-0-is (rw c.percent_decode_str.ensures.bytes at c.in-Err-Utf8.ensures.utf8 is))
