-- The mode is run, since each attribute that it was given reads.
use Rattle.std.proofs.Common.{None}
use Rattle.otel_trace_run.specs.Arguments.{plain_mode}
use Rattle.otel_trace_run.specs.Streams.{streams}
use Rattle.otel_trace_run.proofs.ProgramLemmas.{runs_by_status, status_small}
use Rattle.otel_trace_run.proofs.program.start_mode.Goals as goal

pub returns : goal.returns
returns g c =
    let s = streams (g.R.Read.remaining c.args.input.now) (g.R.Read.remaining c.run_mode-end.new.input)
    (g.W.Write.contents c.args.output.now) (g.W.Write.contents c.run_mode-end.new.output) in (
      None,
      c.in_default.ensures,
      (
        status_small c.run_mode-end.result _ _ _ c.status_of.result c.status_of.ensures,
        runs_by_status _ _ (plain_mode c.args.asked) s c.run_mode-end.result c.says_reasons-says_reasons.result _ _
            c.status_of.result c.run_mode-end.ensures c.says_reasons-says_reasons.ensures c.status_of.ensures,
      ),
    )
