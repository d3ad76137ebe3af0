-- What was given so far was answered, and the answers were written.
use Rattle.otel_trace_run.specs.Streams.{streams}
use Rattle.otel_trace_run.proofs.StepStream.{HasStepped}
use Rattle.otel_trace_run.proofs.step_stream.step_stream.Given as goal

abbrev pub invariant-loop : goal.invariant-loop
invariant-loop g l =
    HasStepped l.fn.machine l.machine (streams (g.R.Read.remaining l.fn.input) (g.R.Read.remaining l.input) (g.W.Write.contents l.fn.output) (g.W.Write.contents l.output)) l.pieces.rest l.before
