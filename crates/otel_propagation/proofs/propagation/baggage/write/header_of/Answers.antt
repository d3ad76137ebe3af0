use Rattle.std.proofs.Common.{ℕ, ◌++◌, ◌==◌, All, map, string_bytes, sym, ap, subst, ◌∙◌}
use Rattle.std.proofs.lemmas.List.{map_push}
use Rattle.std.proofs.lemmas.Iterator.Consumers.{YieldsList-at, YieldsList-end, YieldsList-from_first}
use Rattle.opentelemetry.specs.Baggage.{PlainBaggage, plain_item, entry_of}
use Rattle.otel_propagation.specs.BaggageHeader.{header_of, member_of, HasTexts}
use Rattle.otel_propagation.proofs.BaggageTextLemmas.{IsWritten, written_none, written_more}
use Rattle.otel_propagation.proofs.propagation.baggage.write.header_of.Goals as goal

pub entries-init : goal.entries-init
entries-init c = written_none _ c.in_ok-header.ensures.bytes

pub entries-preserved : goal.entries-preserved
entries-preserved c =
    let name = c.in-Some.name.now in
    let value = c.in-Some.value.now in
    let texts = subst (λ m. HasTexts (entry_of name value m)) c.as_str.ensures c.in_ok-push_member.ensures.texts in
    let more = c.in_ok-push_member.ensures.text ∙ ap (λ m. string_bytes c.push_unless_first.new.text ++ member_of (entry_of name value m)) c.as_str.ensures in
    let first = c.is_empty-is_first.ensures ∙ ap (λ (n : ℕ). n == 0) c.entries.header.bytes.ok.0 in
    subst (λ (es : PlainBaggage). IsWritten es (string_bytes c.push_member.new.header)) (sym (map_push plain_item c.entries.yielded (c.in-Some.name, (c.in-Some.value, c.in-Some.metadata))))
    (written_more (map plain_item c.entries.yielded) (entry_of c.in-Some.name.now c.in-Some.value.now c.in-Some.metadata.now) c.is_empty-is_first.result _ _ _ c.entries.invariant texts first c.in_ok-push_unless_first.ensures more)

pub returns : goal.returns
returns c =
    let entries = YieldsList-at c.into_iter-name-iterator.ensures.into_iter_gives (YieldsList-from_first plain_item (λ entries. entries) c.args.baggage.now c.iter-name-items.ensures) in
    let all = (YieldsList-end entries c.entries.yielded _ c.entries.yielded_by _ _ c.in-None.is c.next.ensures.steps).0 in
    record {
      header = c.entries.invariant.header_is ∙ ap header_of all;
      texts = subst (All HasTexts) all c.entries.invariant.texts;
    }
