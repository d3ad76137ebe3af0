-- The mode that is matched.
use Rattle.std.proofs.Common.{ap, map, string_bytes, sym}
use Rattle.otel_trace_run.specs.Arguments.{otlp, plain_mode}
use Rattle.otel_trace_run.specs.Streams.{streams}
use Rattle.otel_trace_run.proofs.ProgramLemmas.{runs_same}
use Rattle.otel_trace_run.proofs.program.run_mode.Goals as goal

pub returns-in-Otlp : goal.returns-in-Otlp
returns-in-Otlp g c =
    let s = streams (g.R.Read.remaining c.args.input.now) (g.R.Read.remaining c.run_otlp.new.input)
    (g.W.Write.contents c.args.output.now) (g.W.Write.contents c.run_otlp.new.output) in
    runs_same _ _ (plain_mode c.args.mode) (otlp c.in-Otlp.export (map string_bytes c.in-Otlp.given.now)) s c.run_otlp.result
    (ap plain_mode (sym c.in-Otlp.is)) c.run_otlp.ensures
