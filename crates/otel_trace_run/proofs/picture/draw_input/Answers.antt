-- What was drawn of all lines, and how far it was written.
use Rattle.std.proofs.Common.{rules, subst, true}
use Rattle.std.specs.Io.KnownBytes.{Appends}
use Rattle.otel_export.specs.Streams.{AppendsBeginning}
use Rattle.otel_trace_session.specs.Calls.{calls_of}
use Rattle.otel_trace_session.specs.Closing.{LostNothing}
use Rattle.otel_trace_run.specs.Streams.{streams}
use Rattle.otel_trace_run.proofs.Drawing.{drawn_as, drawn_some, draws_from}
use Rattle.otel_trace_run.proofs.picture.draw_input.Goals as goal

pub returns-in_default-write_whole : goal.returns-in_default-write_whole
returns-in_default-write_whole g c =
    let calls = calls_of g.P.SpanProcessor g.P.Timed g.P.CountsLeftSpans g.P.KeepsBatches g.S.ShouldSample g.G.GivesIds in
    let Paints = g.D.SpanPainter.paints c.args.painter.now in
    let session = c.in-Ok.session in
    let after = c.draw_lines-drawn.new.session in
    let s = streams (g.R.Read.remaining c.args.input.now) (g.R.Read.remaining c.draw_lines-drawn.new.input)
    (g.W.Write.contents c.args.output.now) (g.W.Write.contents c.write_whole.new.writer) in
    let drawn = c.in-Some.drawn in
    let lines = c.in-Some.ensures in
    let lost : LostNothing c.close_in-closed.result true = search rules in
    drawn_some calls Paints c.args.provider session after s drawn.end drawn.picture.items lines
    (draws_from calls g.met.P.KeepsBatches.appends Paints c.args.provider session after s.input s.input_after drawn.end drawn.picture.items
    c.new-left.result.items c.close_in-closed.new.output.items c.close_in-closed.result _ c.of_dialect-lines.ensures c.in-Ok.ensures.ok lines
    c.new-left.ensures.items lost c.close_in-closed.ensures.closes)
    (subst (AppendsBeginning _ _) c.deref.ensures.value c.in_default-write_whole.ensures.err)

pub returns : goal.returns
returns g c =
    let calls = calls_of g.P.SpanProcessor g.P.Timed g.P.CountsLeftSpans g.P.KeepsBatches g.S.ShouldSample g.G.GivesIds in
    let Paints = g.D.SpanPainter.paints c.args.painter.now in
    let session = c.in-Ok.session in
    let after = c.draw_lines-drawn.new.session in
    let s = streams (g.R.Read.remaining c.args.input.now) (g.R.Read.remaining c.draw_lines-drawn.new.input)
    (g.W.Write.contents c.args.output.now) (g.W.Write.contents c.write_whole.new.writer) in
    let drawn = c.in-Some.drawn in
    let lines = c.in-Some.ensures in
    let lost : LostNothing c.close_in-closed.result true = search rules in
    drawn_as calls Paints c.args.provider session after s drawn.end drawn.picture.items lines
    (draws_from calls g.met.P.KeepsBatches.appends Paints c.args.provider session after s.input s.input_after drawn.end drawn.picture.items
    c.new-left.result.items c.close_in-closed.new.output.items c.close_in-closed.result _ c.of_dialect-lines.ensures c.in-Ok.ensures.ok lines
    c.new-left.ensures.items lost c.close_in-closed.ensures.closes)
    (subst (Appends _ _) c.deref.ensures.value c.in-Ok-write_whole.ensures.ok)
