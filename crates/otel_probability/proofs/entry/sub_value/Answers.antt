use Rattle.std.proofs.Common.{length, lit<, arith}
use Rattle.std.proofs.lemmas.Iterator.Splits.{YieldsList-from_str_split}
use Rattle.std.proofs.lemmas.Iterator.Consumers.{YieldsList-turn, YieldsList-end}
use Rattle.std.proofs.lemmas.List.{length_push}
use Rattle.otel_probability.specs.Entry.{entry_members}
use Rattle.otel_probability.proofs.Members.{value_here, value_later, value_nowhere}
use Rattle.otel_probability.proofs.entry.sub_value.Goals as goal

pub returns-in-Some-value_under : goal.returns-in-Some-value_under
returns-in-Some-value_under c =
    let t = YieldsList-turn (YieldsList-from_str_split 59 c.args.entry.now (lit< tt) (cc) (cc) (cc)) c.loop-member.yielded _ c.loop-member.yielded_by _ _ c.in-Some.member c.in-Some.is c.next.ensures.steps in
    value_here c.args.name.now (entry_members c.args.entry.now) (length c.loop-member.yielded) c.in-Some.member.now c.in-Some-value_under.value.now t c.loop-member.invariant
    c.in-Some-value_under.ensures

pub loop-member-preserved : goal.loop-member-preserved
loop-member-preserved c =
    let t = YieldsList-turn (YieldsList-from_str_split 59 c.args.entry.now (lit< tt) (cc) (cc) (cc)) c.loop-member.yielded _ c.loop-member.yielded_by _ _ c.in-Some.member c.in-Some.is c.next.ensures.steps in
    let more = length_push c.loop-member.yielded c.in-Some.member in
    value_later c.args.name.now (entry_members c.args.entry.now) (length c.loop-member.yielded) _ c.in-Some.member.now t more c.loop-member.invariant c.in_default.ensures

pub returns : goal.returns
returns c =
    let t = YieldsList-end (YieldsList-from_str_split 59 c.args.entry.now (lit< tt) (cc) (cc) (cc)) c.loop-member.yielded _ c.loop-member.yielded_by _ _ c.in-None.is c.next.ensures.steps in
    value_nowhere c.args.name.now (entry_members c.args.entry.now) (length c.loop-member.yielded) (omega (arith, t.1)) c.loop-member.invariant
