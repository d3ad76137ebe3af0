-- How a run ended by whether the exporter lost a batch; where no machine was made, nothing was done.
use Rattle.std.proofs.Common.{subst}
use Rattle.otel_batch.specs.MachineState.{Machine}
use Rattle.otel_export.specs.StoredBatches.{StoredBatches}
use Rattle.otel_trace_run.specs.StepRuns.{StepsSome}
use Rattle.otel_trace_steps.specs.StepAnswers.{machine_of}
use Rattle.otel_trace_run.specs.Streams.{streams}
use Rattle.otel_trace_run.proofs.StepStream.{begun_none, ended_begun}
use Rattle.otel_trace_run.proofs.step_stream.step_input.Goals as goal

pub returns-in-Err : goal.returns-in-Err
returns-in-Err g c = begun_none (machine_of c.args.sizes) (g.R.Read.remaining c.args.input.now) (g.W.Write.contents c.args.output.now)

pub returns-then-lost_batches-gt0 : goal.returns-then-lost_batches-gt0
returns-then-lost_batches-gt0 g c =
    let s = streams (g.R.Read.remaining c.args.input.now) (g.R.Read.remaining c.step_stream-end.new.input) (g.W.Write.contents c.args.output.now) (g.W.Write.contents c.step_stream-end.new.output) in
    subst (λ (start : Machine StoredBatches). StepsSome start s) c.in-Ok.ensures
    (ended_begun c.in-Ok.machine c.step_stream-end.new.machine s c.step_stream-end.result c.step_stream-end.ensures)
