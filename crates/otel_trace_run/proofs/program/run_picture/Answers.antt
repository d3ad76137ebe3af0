-- A session under the provider that is asked for.
use Rattle.otel_trace_run.specs.Streams.{streams}
use Rattle.otel_trace_run.proofs.Drawing.{draws_asked}
use Rattle.otel_trace_run.proofs.program.run_picture.Goals as goal

pub returns-in-Ok : goal.returns-in-Ok
returns-in-Ok g c =
    let s = streams (g.R.Read.remaining c.args.input.now) (g.R.Read.remaining c.draw_input.new.input)
    (g.W.Write.contents c.args.output.now) (g.W.Write.contents c.draw_input.new.output) in
    draws_asked _ _ c.args.asked c.in-Ok.provider s c.draw_input.result c.in-Ok.ensures c.draw_input.ensures
