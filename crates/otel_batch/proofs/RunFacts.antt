-- All that holds of a list of steps of the batch queue follows from the run, from a sound machine on.
use Rattle.std.proofs.Common.{List}
use Rattle.otel_batch.specs.MachineState.{Machine, counts}
use Rattle.otel_batch.specs.SoundMachine.{IsSound}
use Rattle.otel_batch.specs.MachineRun.{Run}
use Rattle.otel_batch.specs.RunsTo.{RunsTo}
use Rattle.otel_batch.specs.declared.machine.step.Outcome.{Outcome}
use Rattle.otel_batch.specs.declared.machine.step.Step.{Step}
use Rattle.otel_export.specs.declared.trace.export.SpanExporter.{Ghosts}
use Rattle.otel_batch.proofs.Runs.{run-sound}
use Rattle.otel_batch.proofs.Conserving.{run-conserves, run-drops, run-loses_none}
use Rattle.otel_batch.proofs.Silence.{run-silent, run-stays_silent}
use Rattle.otel_batch.proofs.PendingRequestLemmas.{gone-waits, run-knows}
use Rattle.otel_batch.proofs.Draining.{run-completes}
use Rattle.otel_batch.proofs.Bounding.{run-bounds, run-fits}
use Rattle.otel_batch.proofs.Answering.{run-answers}
use Rattle.otel_batch.proofs.Stranding.{run-counts, run-strands}

module _ {E : Type 0} (calls : Ghosts E) where
  pub run_to : (s : Machine E) (xs : List Step) (os : List Outcome) (t : Machine E) → IsSound (counts s) →
      Run calls s xs os t → RunsTo calls s xs os t
  run_to s xs os t sound run = record {
    ran = run;
    loses_no_span = λ first. run-loses_none calls s xs os t first run;
    conserved = run-conserves calls s xs os t run;
    dropped = run-drops calls s xs os t sound.fits.dropped_fits run;
    drains = run-completes calls s xs os t sound run;
    answers = run-answers calls s xs os t sound run;
    bounded = run-bounds calls s xs os t sound run;
    batches = run-fits calls s xs os t sound run;
    requests = run-knows calls s xs os t sound run;
    none_waits = λ gone p. gone-waits (counts t) (run-sound calls s xs os t sound run) gone p;
    silent = run-silent calls s xs os t run;
    stays_silent = λ closed. run-stays_silent calls s xs os t sound run closed;
    stranded = run-strands calls s xs os t run;
    counted = λ first. run-counts calls s xs os t first run;
    sound = run-sound calls s xs os t sound run;
  }
