use Rattle.std.proofs.Common.{◌++◌, string_bytes, ap, ◌∙◌}
use Rattle.std.proofs.lemmas.Result.{on_ok_weaker}
use Rattle.percent_encoding.specs.Percent.{percent_encode}
use Rattle.otel_propagation.specs.declared.propagation.baggage.write.TheConstants.{ESCAPED}
use Rattle.otel_propagation.proofs.BaggageTextLemmas.{escaped_is}
use Rattle.otel_propagation.proofs.propagation.baggage.write.push_escaped.Goals as goal

pub returns : goal.returns
returns c =
    let text = c.utf8_percent_encode.ensures.text ∙ ap (percent_encode ESCAPED) c.trim.ensures.trim ∙ escaped_is c.args.text.now in
    on_ok_weaker c.append_to.result (λ written. written ∙ ap (λ t. string_bytes c.args.header.now ++ t) text) c.append_to.ensures.ok
