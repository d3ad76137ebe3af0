use Rattle.std.proofs.Common.{length}
use Rattle.otel_trace_run.proofs.wrong_words.+pass_choices.Given as goal

abbrev pub decreases-pass_choices : goal.decreases-pass_choices
decreases-pass_choices l = length l.words.now
