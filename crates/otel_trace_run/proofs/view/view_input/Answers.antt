-- What does not read is named, and requests without spans are counted.
use Rattle.std.proofs.Common.{◌≡◌}
use Rattle.std.specs.Io.KnownBytes.{Appends}
use Rattle.otel_trace_run.specs.Streams.{streams}
use Rattle.otel_trace_run.proofs.Viewing.{views_by}
use Rattle.otel_trace_run.proofs.view.view_input.Goals as goal

pub returns-in-Some : goal.returns-in-Some
returns-in-Some g c =
    let s = streams (g.R.Read.remaining c.args.input.now) (g.R.Read.remaining c.draw_view.new.input)
    (g.W.Write.contents c.args.output.now) (g.W.Write.contents c.draw_view.new.output) in
    let notes = c.in-Some.notes in
    views_by c.args.view s notes (c.tell.new.faults ≡ c.args.faults.now)
    (Appends (g.F.Write.contents c.args.faults.now) (g.F.Write.contents c.tell.new.faults)) c.tell.result
    c.in-Some.ensures c.tell.ensures
