-- What was given so far was carried out, and its replies were written, in the form that it had.
use Rattle.std.proofs.Common.{◌≡◌}
use Rattle.otel_trace_session.specs.Calls.{calls_of}
use Rattle.otel_trace_run.specs.Streams.{streams}
use Rattle.otel_trace_run.proofs.TraceStream.{HasTraced}
use Rattle.otel_trace_run.proofs.trace_stream.feed_pieces.Given as goal

abbrev pub invariant-loop : goal.invariant-loop
invariant-loop g l =
    (g.F.ReplyForm.form l.form ≡ g.F.ReplyForm.form l.fn.form)
    × HasTraced (calls_of g.P.SpanProcessor g.P.Timed g.P.CountsLeftSpans g.P.KeepsBatches g.S.ShouldSample g.G.GivesIds) (g.F.ReplyForm.form l.fn.form) (l.fn.session) (l.session)
    (streams (g.R.Read.remaining l.fn.input) (g.R.Read.remaining l.input) (g.W.Write.contents l.fn.output) (g.W.Write.contents l.output)) l.pieces.rest l.before
