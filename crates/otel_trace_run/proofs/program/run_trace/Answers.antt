-- A session under the provider that is asked for.
use Rattle.otel_trace_run.specs.Streams.{streams}
use Rattle.otel_trace_run.proofs.ProgramLemmas.{traces_asked}
use Rattle.otel_trace_run.proofs.program.run_trace.Goals as goal

pub returns-in-Ok : goal.returns-in-Ok
returns-in-Ok g c =
    let s = streams (g.R.Read.remaining c.args.input.now) (g.R.Read.remaining c.trace_input.new.input)
    (g.W.Write.contents c.args.output.now) (g.W.Write.contents c.trace_input.new.output) in
    traces_asked _ c.args.asked c.in-Ok.provider s c.trace_input.result c.new-lines.result c.new-lines.ensures c.in-Ok.ensures c.trace_input.ensures
