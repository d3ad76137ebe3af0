-- The first line ends at the first line feed, and is the whole text where there is none.
use Rattle.std.proofs.Common.{◌+◌, ◌<◌, length, arith, sym, rules, length-drop}
use Rattle.std.proofs.lemmas.List.{take_rest}
use Rattle.otel_trace_lines.proofs.Cuts.{lines_none, lines_first}
use Rattle.otel_trace_lines.proofs.fields.first_line.Goals as goal

pub returns-in-None : goal.returns-in-None
returns-in-None c =
    let some : 0 < length c.args.text.now = search rules in
    (lines_none c.args.text.now (sym c.in-None.ensures) some, some)

pub returns-in-Some : goal.returns-in-Some
returns-in-Some c =
    let text = c.args.text.now in
    let first = lines_first text c.in-Some.end (sym c.in-Some.ensures) in
    let front = c.without_carriage_return.ensures in
    let after = take_rest text (c.in-Some.end + 1) in
    (rw (front, after) first.0, rw after (omega (arith, length-drop (c.in-Some.end + 1) text)))
