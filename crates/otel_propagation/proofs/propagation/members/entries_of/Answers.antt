use Rattle.std.proofs.Common.{List, ℕ, length, map, sym, ap, ◌∙◌, subst, lit<, lit≤}
use Rattle.std.specs.List.{filter_map}
use Rattle.std.proofs.lemmas.List.{map_push}
use Rattle.std.proofs.lemmas.List.Elements.{All-get_or}
use Rattle.std.proofs.lemmas.Iterator.{YieldsList-from_take}
use Rattle.std.proofs.lemmas.Iterator.Consumers.{YieldsList-at, YieldsList-end, YieldsList-so_far, YieldsList-turn}
use Rattle.std.proofs.lemmas.Iterator.Splits.{YieldsList-from_str_split}
use Rattle.opentelemetry.specs.Members.{HasNo, equals_sign}
use Rattle.otel_propagation.specs.BaggageHeader.{one_a_name}
use Rattle.otel_propagation.proofs.BaggageNoEntries.{members_have_none}
use Rattle.otel_propagation.proofs.MemberBounds.{IsReadFrom, read_none, read_more, room}
use Rattle.otel_propagation.proofs.propagation.members.entries_of.Goals as goal

pub members-init : goal.members-init
members-init g c = (read_none g.M.ReadsMembers.says c.new-baggage.result c.new-baggage.ensures, λ _. c.new-baggage.ensures)

pub put_member-requires : goal.put_member-requires
put_member-requires g c =
    let pieces = YieldsList-at c.into_iter-member-iterator.ensures.into_iter_gives
    (YieldsList-from_take 64 (YieldsList-at c.take-member-items.ensures.source (YieldsList-from_str_split 44 c.args.header.now (lit< tt) c.split.ensures.text c.split.ensures.has_more c.split.ensures.pattern)) c.take-member-items.ensures.count) in
    let so_far = YieldsList-so_far pieces c.members.yielded _ c.members.yielded_by in
    let turn = YieldsList-turn pieces c.members.yielded _ c.members.yielded_by _ _ c.in-Some.member c.in-Some.is c.next.ensures.steps in
    let has = room g.M.ReadsMembers.says c.args.header.now 64 (length c.members.yielded) (map (λ x. x.now) c.members.yielded) c.in-Some.member.now c.members.baggage
    c.requires (lit≤ tt) c.members.invariant.0 so_far turn.0 turn.1 in
    record { few = has.few; small = has.small }

pub members-preserved : goal.members-preserved
members-preserved g c =
    let pieces = YieldsList-at c.into_iter-member-iterator.ensures.into_iter_gives
    (YieldsList-from_take 64 (YieldsList-at c.take-member-items.ensures.source (YieldsList-from_str_split 44 c.args.header.now (lit< tt) c.split.ensures.text c.split.ensures.has_more c.split.ensures.pattern)) c.take-member-items.ensures.count) in
    let turn = YieldsList-turn pieces c.members.yielded _ c.members.yielded_by _ _ c.in-Some.member c.in-Some.is c.next.ensures.steps in
    let put = c.in_ok-put_member.ensures in (
      subst (λ (members : List (List ℕ)). IsReadFrom g.M.ReadsMembers.says members c.put_member.new.baggage) (sym (map_push (λ x. x.now) c.members.yielded c.in-Some.member))
          (read_more g.M.ReadsMembers.says (map (λ x. x.now) c.members.yielded) c.in-Some.member.now c.members.baggage c.put_member.new.baggage c.members.invariant.0 put.put put.short),
      λ none. put.none
          (subst (HasNo equals_sign) (sym turn.1) (All-get_or (HasNo equals_sign) _ (length c.members.yielded) c.in-Some.member.now turn.0 (members_have_none c.args.header.now none)))
          ∙ c.members.invariant.1 none,
    )

pub returns-clause-read : goal.returns-clause-read
returns-clause-read g c =
    let pieces = YieldsList-at c.into_iter-member-iterator.ensures.into_iter_gives
    (YieldsList-from_take 64 (YieldsList-at c.take-member-items.ensures.source (YieldsList-from_str_split 44 c.args.header.now (lit< tt) c.split.ensures.text c.split.ensures.has_more c.split.ensures.pattern)) c.take-member-items.ensures.count) in
    c.members.invariant.0.entries
    ∙ ap (λ ms. one_a_name (filter_map g.M.ReadsMembers.says ms)) (YieldsList-end pieces c.members.yielded _ c.members.yielded_by _ _ c.in-None.is c.next.ensures.steps).0

pub returns-clause-none : goal.returns-clause-none
returns-clause-none g c = λ none. c.members.invariant.1 none

pub returns-in_err-put_member-clause-free : goal.returns-in_err-put_member-clause-free
returns-in_err-put_member-clause-free g c = λ none.
    let pieces = YieldsList-at c.into_iter-member-iterator.ensures.into_iter_gives
    (YieldsList-from_take 64 (YieldsList-at c.take-member-items.ensures.source (YieldsList-from_str_split 44 c.args.header.now (lit< tt) c.split.ensures.text c.split.ensures.has_more c.split.ensures.pattern)) c.take-member-items.ensures.count) in
    let turn = YieldsList-turn pieces c.members.yielded _ c.members.yielded_by _ _ c.in-Some.member c.in-Some.is c.next.ensures.steps in
    let own : HasNo equals_sign c.in-Some.member.now =
    subst (HasNo equals_sign) (sym turn.1) (All-get_or (HasNo equals_sign) _ (length c.members.yielded) c.in-Some.member.now turn.0 (members_have_none c.args.header.now none)) in
    let ok = c.in_err-put_member.ensures.free own in
    absurd cc
