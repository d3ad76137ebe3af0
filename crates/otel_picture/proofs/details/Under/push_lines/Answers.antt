-- One line more.
use Rattle.std.proofs.Common.{◌++◌, length, lit<, arith, flat_map, string_bytes}
use Rattle.std.proofs.lemmas.Iterator.Splits.{YieldsList-from_str_split}
use Rattle.std.proofs.lemmas.Iterator.Consumers.{YieldsList-turn, YieldsList-end}
use Rattle.std.proofs.lemmas.List.{length_push}
use Rattle.otel_picture.specs.Details.{attribute_text, lines_in}
use Rattle.otel_picture.proofs.AttributeLines.{line_put, lines_put}
use Rattle.otel_picture.proofs.details.Under.push_lines.Goals as goal

pub loop-line-preserved : goal.loop-line-preserved
loop-line-preserved c =
    let t = YieldsList-turn (YieldsList-from_str_split 10 c.args.attributes.now (lit< tt) (cc) (cc) (cc))
    c.loop-line.yielded _ c.loop-line.yielded_by _ _ c.in-Some.line c.in-Some.is c.next.ensures.steps in
    let more = length_push c.loop-line.yielded c.in-Some.line in
    let all = lines_in c.args.attributes.now in
    line_put (attribute_text c.args.self) all (length c.loop-line.yielded) _ c.in-Some.line.now
    (string_bytes c.loop-line.text) (string_bytes c.push_attribute.new.text)
    (string_bytes c.args.text.now ++ flat_map (attribute_text c.args.self) all) t more c.in_ok-push_attribute.ensures
    c.loop-line.invariant

pub returns : goal.returns
returns c =
    let t = YieldsList-end (YieldsList-from_str_split 10 c.args.attributes.now (lit< tt) (cc) (cc) (cc))
    c.loop-line.yielded _ c.loop-line.yielded_by _ _ c.in-None.is c.next.ensures.steps in
    let all = lines_in c.args.attributes.now in
    lines_put (attribute_text c.args.self) all (length c.loop-line.yielded) (string_bytes c.loop-line.text)
    (string_bytes c.args.text.now ++ flat_map (attribute_text c.args.self) all) (omega (arith, t.1))
    c.loop-line.invariant
