-- The text of a session is the requests of its batches.
use Rattle.otel_trace_run.specs.Streams.{streams}
use Rattle.otel_trace_run.proofs.Exporting.{exports_as}
use Rattle.otel_trace_session.specs.Calls.{calls_of}
use Rattle.otel_trace_run.proofs.otlp.export_input.Goals as goal

pub returns : goal.returns
returns g c =
    let calls = calls_of g.P.SpanProcessor g.P.Timed g.P.CountsLeftSpans g.P.KeepsBatches g.S.ShouldSample g.G.GivesIds in
    let s = streams (g.R.Read.remaining c.args.input.now) (g.R.Read.remaining c.trace_input.new.input)
    (g.W.Write.contents c.args.output.now) (g.W.Write.contents c.trace_input.new.output) in
    exports_as calls g.met.P.KeepsBatches.appends (record { encoding = c.args.encoding; resource = c.args.resource }) c.args.provider s c.trace_input.result c.trace_input.ensures
