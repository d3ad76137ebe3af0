use Rattle.std.proofs.Common.{length}
use Rattle.otel_trace_run.proofs.asked_view.+choose.Given as goal

abbrev pub decreases-choose : goal.decreases-choose
decreases-choose l = length l.words.now
