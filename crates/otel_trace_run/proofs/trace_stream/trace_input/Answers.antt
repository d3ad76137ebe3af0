-- A session under the provider, or none for which nothing was done.
use Rattle.std.proofs.Common.{inl}
use Rattle.std.proofs.KnownBytes.{Appends-nil}
use Rattle.otel_trace_session.specs.Calls.{calls_of}
use Rattle.otel_trace_run.proofs.TraceEnds.{traced_under}
use Rattle.otel_trace_run.proofs.trace_stream.trace_input.Goals as goal

pub returns-in-Err : goal.returns-in-Err
returns-in-Err g c = inl (Appends-nil (g.W.Write.contents c.args.output.now))

pub returns-in-Ok : goal.returns-in-Ok
returns-in-Ok g c =
    let calls = calls_of g.P.SpanProcessor g.P.Timed g.P.CountsLeftSpans g.P.KeepsBatches g.S.ShouldSample g.G.GivesIds in
    traced_under calls (g.F.ReplyForm.form c.args.form.now) c.args.provider c.in-Ok.session _ c.trace_session.result c.in-Ok.ensures.ok c.trace_session.ensures
