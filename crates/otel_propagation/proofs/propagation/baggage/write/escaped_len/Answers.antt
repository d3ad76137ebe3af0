use Rattle.std.proofs.Common.{◌≡◌, ◌+◌, ◌-◌, ◌*◌, ◌^◌, min, length, ap, ◌∙◌, arith, rules}
use Rattle.std.specs.List.{filter}
use Rattle.std.specs.Str.{trim}
use borrow.Author.Tests.{tests}
use Rattle.std.proofs.lemmas.Iterator.{YieldsList-from_slice}
use Rattle.std.proofs.lemmas.Iterator.Consumers.{YieldsList-at, YieldsList-from_filter, count_from_yields_List}
use Rattle.percent_encoding.specs.AsciiSet.{should_percent_encode}
use Rattle.otel_propagation.specs.declared.propagation.baggage.write.TheConstants.{ESCAPED}
use Rattle.otel_propagation.proofs.BaggageTextLemmas.{length-escaped}
use Rattle.otel_propagation.proofs.propagation.baggage.write.escaped_len.Goals as goal

-- how many bytes the set has
escapes : (c : goal.After-saturating_add) → c.count-escapes.result ≡ length (filter (should_percent_encode ESCAPED) c.as_bytes.result.now)
escapes c =
    count_from_yields_List c.filter.result _ c.count-escapes.ensures.ran
    (YieldsList-from_filter _ (should_percent_encode ESCAPED) (YieldsList-at c.filter.ensures.source (YieldsList-from_slice c.as_bytes.result.now c.iter.ensures.rest)) c.filter.ensures.closure (λ x r q k. search (rules, tests)))

pub returns : goal.returns
returns c =
    let text : c.as_bytes.result.now ≡ trim c.args.text.now = c.as_bytes.ensures.value ∙ c.trim-text.ensures.trim in
    let count : c.count-escapes.result ≡ length (filter (should_percent_encode ESCAPED) (trim c.args.text.now)) = escapes c ∙ ap (λ t. length (filter (should_percent_encode ESCAPED) t)) text in
    let len : length c.trim-text.result.now ≡ length (trim c.args.text.now) = ap length c.trim-text.ensures.trim in
    let all = length-escaped c.args.text.now in
    let more : c.saturating_mul.result ≡ min (c.count-escapes.result * 2) (2 ^ 64 - 1) = c.saturating_mul.ensures in
    let sum : c.saturating_add.result ≡ min (length c.trim-text.result.now + c.saturating_mul.result) (2 ^ 64 - 1) = c.saturating_add.ensures in
    omega arith
