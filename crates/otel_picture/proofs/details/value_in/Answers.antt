-- One line more.
use Rattle.std.proofs.Common.{length, lit<, arith}
use Rattle.std.proofs.lemmas.Iterator.Splits.{YieldsList-from_str_split}
use Rattle.std.proofs.lemmas.Iterator.Consumers.{YieldsList-turn, YieldsList-end}
use Rattle.std.proofs.lemmas.List.{length_push}
use Rattle.otel_picture.specs.Details.{lines_in}
use Rattle.otel_picture.proofs.AttributeLines.{value_here, value_later, value_nowhere}
use Rattle.otel_picture.proofs.details.value_in.Goals as goal

pub returns-in-Some-value_under : goal.returns-in-Some-value_under
returns-in-Some-value_under c =
    let t = YieldsList-turn (YieldsList-from_str_split 10 c.args.attributes.now (lit< tt) (cc) (cc) (cc))
    c.loop-line.yielded _ c.loop-line.yielded_by _ _ c.in-Some.line c.in-Some.is c.next.ensures.steps in
    value_here c.args.key.now (lines_in c.args.attributes.now) (length c.loop-line.yielded) c.in-Some.line.now
    c.in-Some-value_under.value.now t c.loop-line.invariant c.in-Some-value_under.ensures

pub loop-line-preserved : goal.loop-line-preserved
loop-line-preserved c =
    let t = YieldsList-turn (YieldsList-from_str_split 10 c.args.attributes.now (lit< tt) (cc) (cc) (cc))
    c.loop-line.yielded _ c.loop-line.yielded_by _ _ c.in-Some.line c.in-Some.is c.next.ensures.steps in
    let more = length_push c.loop-line.yielded c.in-Some.line in
    value_later c.args.key.now (lines_in c.args.attributes.now) (length c.loop-line.yielded) _ c.in-Some.line.now t more
    c.loop-line.invariant c.in_default.ensures

pub returns : goal.returns
returns c =
    let t = YieldsList-end (YieldsList-from_str_split 10 c.args.attributes.now (lit< tt) (cc) (cc) (cc))
    c.loop-line.yielded _ c.loop-line.yielded_by _ _ c.in-None.is c.next.ensures.steps in
    value_nowhere c.args.key.now (lines_in c.args.attributes.now) (length c.loop-line.yielded) (omega (arith, t.1))
    c.loop-line.invariant
