use Rattle.otel_trace_lines.proofs.JoinedLines.{lines_joined}
use Rattle.otel_trace_lines.proofs.laws.lines_join.Goals as goal

pub returns : goal.returns
returns c = lines_joined
