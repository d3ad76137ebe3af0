use Rattle.std.proofs.Common.{◌∙◌, length, lit<, sym, arith}
use Rattle.std.specs.Prelude.{string_bytes}
use Rattle.std.proofs.lemmas.Iterator.Splits.{YieldsList-from_str_split}
use Rattle.std.proofs.lemmas.Iterator.Consumers.{YieldsList-turn, YieldsList-end}
use Rattle.std.proofs.lemmas.List.{length_push}
use Rattle.otel_probability.specs.Entry.{entry_members}
use Rattle.otel_probability.proofs.Members.{member_left, member_put, members_put}
use Rattle.otel_probability.proofs.entry.push_others.Goals as goal

pub loop-member-preserved-in-Continue-1 : goal.loop-member-preserved-in-Continue-1
loop-member-preserved-in-Continue-1 c =
    let t = YieldsList-turn (YieldsList-from_str_split 59 c.args.entry.now (lit< tt) (cc) (cc) (cc)) c.loop-member.yielded _ c.loop-member.yielded_by _ _ c.in-Some.member c.in-Some.is c.next.ensures.steps in
    let more = length_push c.loop-member.yielded c.in-Some.member in
    member_put (entry_members c.args.entry.now) (length c.loop-member.yielded) _ c.in-Some.member.now (string_bytes c.loop-member.text) (string_bytes c.push_member.new.text)
    (string_bytes c.args.text.now) t more (sym c.stays.ensures ∙ c.if-stays.true) c.in_ok-push_member.ensures c.loop-member.invariant

pub loop-member-preserved : goal.loop-member-preserved
loop-member-preserved c =
    let t = YieldsList-turn (YieldsList-from_str_split 59 c.args.entry.now (lit< tt) (cc) (cc) (cc)) c.loop-member.yielded _ c.loop-member.yielded_by _ _ c.in-Some.member c.in-Some.is c.next.ensures.steps in
    let more = length_push c.loop-member.yielded c.in-Some.member in
    member_left (entry_members c.args.entry.now) (length c.loop-member.yielded) _ c.in-Some.member.now (string_bytes c.loop-member.text)
    (string_bytes c.args.text.now) t more (sym c.stays.ensures ∙ c.if-stays.false) c.loop-member.invariant

pub returns : goal.returns
returns c =
    let t = YieldsList-end (YieldsList-from_str_split 59 c.args.entry.now (lit< tt) (cc) (cc) (cc)) c.loop-member.yielded _ c.loop-member.yielded_by _ _ c.in-None.is c.next.ensures.steps in
    members_put (entry_members c.args.entry.now) (length c.loop-member.yielded) (string_bytes c.loop-member.text) (string_bytes c.args.text.now) (omega (arith, t.1)) c.loop-member.invariant
