use Rattle.std.proofs.Common.{◌≡◌, ◌+◌, ◌-◌, ◌^◌, ◌++◌, ◌∷◌, [], min, length, map, sym, ap, ◌∙◌, arith}
use Rattle.std.proofs.lemmas.List.{map_push}
use Rattle.std.proofs.lemmas.List.Sums.{sum_by_push}
use Rattle.std.proofs.lemmas.Iterator.Consumers.{YieldsList-at, YieldsList-end, YieldsList-from_first}
use Rattle.opentelemetry.specs.Baggage.{PlainBaggage, PlainBaggageEntry, entry_of, plain_item}
use Rattle.otel_propagation.specs.BaggageHeader.{member_of}
use Rattle.otel_propagation.proofs.BaggageTextLemmas.{members_bytes, length-header_of}
use Rattle.otel_propagation.proofs.propagation.baggage.write.header_len.Goals as goal

pub entries-init : goal.entries-init
entries-init c =
    let count : c.len.result ≡ length c.args.baggage.now = c.len.ensures.len in
    let less : c.saturating_sub-len.result ≡ c.len.result - 1 = c.saturating_sub-len.ensures in
    let within = c.len.ensures.within.few in
    let goal : c.saturating_sub-len.result ≡ min (length c.args.baggage.now - 1 + members_bytes []) (2 ^ 64 - 1) = omega arith in
    goal

pub entries-preserved : goal.entries-preserved
entries-preserved c =
    let e : PlainBaggageEntry = entry_of c.in-Some.name.now c.in-Some.value.now c.in-Some.metadata.now in
    let read : PlainBaggage = map plain_item c.entries.yielded in
    let own : c.member_len.result ≡ min (length (member_of e)) (2 ^ 64 - 1) = c.member_len.ensures ∙ ap (λ m. min (length (member_of (entry_of c.in-Some.name.now c.in-Some.value.now m))) (2 ^ 64 - 1)) c.as_str.ensures in
    let so_far : c.entries.len ≡ min (length c.args.baggage.now - 1 + members_bytes read) (2 ^ 64 - 1) = c.entries.invariant in
    let sum : members_bytes (read ++ e ∷ []) ≡ members_bytes read + length (member_of e) = sum_by_push (λ (x : PlainBaggageEntry). length (member_of x)) read e in
    let all : c.saturating_add-len.result ≡ min (c.entries.len + c.member_len.result) (2 ^ 64 - 1) = c.saturating_add-len.ensures in
    let next : c.saturating_add-len.result ≡ min (length c.args.baggage.now - 1 + members_bytes (read ++ e ∷ [])) (2 ^ 64 - 1) = omega arith in
    next ∙ ap (λ es. min (length c.args.baggage.now - 1 + members_bytes es) (2 ^ 64 - 1)) (sym (map_push plain_item c.entries.yielded (c.in-Some.name, (c.in-Some.value, c.in-Some.metadata))))

pub returns : goal.returns
returns c =
    let entries = YieldsList-at c.into_iter-name-iterator.ensures.into_iter_gives (YieldsList-from_first plain_item (λ entries. entries) c.args.baggage.now c.iter-name-items.ensures) in
    c.entries.invariant
    ∙ ap (λ es. min (length c.args.baggage.now - 1 + members_bytes es) (2 ^ 64 - 1)) (YieldsList-end entries c.entries.yielded _ c.entries.yielded_by _ _ c.in-None.is c.next.ensures.steps).0
    ∙ ap (λ n. min n (2 ^ 64 - 1)) (sym (length-header_of c.args.baggage.now))
