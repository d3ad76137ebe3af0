-- One text more.
use Rattle.std.proofs.Common.{ap, arith, map, string_bytes, sym, ◌∙◌}
use Rattle.std.proofs.lemmas.List.{get_or-map, length-map}
use Rattle.json.specs.Tree.{json_tokens}
use Rattle.otel_otlp.specs.OtlpValues.{text_json}
use Rattle.otel_otlp.proofs.Adding.{as_tokens, item_more}
use Rattle.otel_otlp.proofs.tokens.RequestWriter.text_items.Goals as goal

pub loop-item-preserved : goal.loop-item-preserved
loop-item-preserved c =
    let texts = map (λ item. string_bytes item) c.args.items.now in
    let text = string_bytes c.item-item.result in
    item_more text_json texts c.loop-item.item-index text
    (omega (arith, length-map c.args.items.now (λ item. string_bytes item)))
    (ap (λ item. string_bytes item) c.item-item.is ∙ sym (get_or-map (λ item. string_bytes item) c.args.items.now
    c.loop-item.item-index c.item-item.result text (omega arith))) c.loop-item.invariant
    (as_tokens (ap (λ text. json_tokens (text_json text)) c.as_str.ensures.value) c.in_ok-text_value.ensures)
