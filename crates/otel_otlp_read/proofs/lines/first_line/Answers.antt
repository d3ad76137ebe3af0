-- The first line ends at the first line feed, and is the whole text where there is none.
use Rattle.std.proofs.Common.{◌+◌, sym}
use Rattle.std.proofs.lemmas.List.{take_rest}
use Rattle.otel_otlp_read.proofs.LeftLines.{lines_none, lines_first}
use Rattle.otel_otlp_read.proofs.lines.first_line.Goals as goal

pub returns-in-Some-clause-cut : goal.returns-in-Some-clause-cut
returns-in-Some-clause-cut c =
    let text = c.args.text.now in
    let first = lines_first text c.in-Some.end (sym c.in-Some.ensures) in
    let after = take_rest text (c.in-Some.end + 1) in
    rw after first.0

pub returns-in-None-clause-cut : goal.returns-in-None-clause-cut
returns-in-None-clause-cut c = lines_none c.args.text.now (sym c.in-None.ensures)
