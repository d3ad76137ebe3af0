-- No moment stands there.
use Rattle.otel_trace_lines.proofs.FieldLemmas.{only_run}
use Rattle.otel_trace_lines.proofs.Numerals.{none_found}
use Rattle.otel_trace_lines.proofs.lines.run_of.Goals as goal

pub returns-in_err-moment : goal.returns-in_err-moment
returns-in_err-moment c = rw c.from_residual.ensures (only_run c.args.field.now (none_found c.in_err-moment.ensures))
