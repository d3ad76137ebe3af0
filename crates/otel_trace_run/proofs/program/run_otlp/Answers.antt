-- A session under the provider that is asked for.
use Rattle.std.proofs.Common.{map, string_bytes}
use Rattle.otel_trace_run.specs.Streams.{streams}
use Rattle.otel_trace_run.proofs.Exporting.{exports_asked}
use Rattle.otel_trace_run.proofs.program.run_otlp.Goals as goal

pub returns-in-Ok-make_provider : goal.returns-in-Ok-make_provider
returns-in-Ok-make_provider g c =
    let s = streams (g.R.Read.remaining c.args.input.now) (g.R.Read.remaining c.export_input.new.input)
    (g.W.Write.contents c.args.output.now) (g.W.Write.contents c.export_input.new.output) in
    exports_asked _ c.args.export (map string_bytes c.args.given.now) c.in-Ok.resource c.in-Ok-make_provider.provider s c.export_input.result
    c.in-Ok.ensures c.in-Ok-make_provider.ensures c.export_input.ensures
