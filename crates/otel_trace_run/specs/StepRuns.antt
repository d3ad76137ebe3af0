-- What the mode `steps` does with its streams.
use Rattle.std.specs.Prelude.{◌≡◌, ℕ, false, List, Option}
use Rattle.std.specs.Io.KnownBytes.{Appends}
use Rattle.otel_batch.specs.MachineState.{Machine}
use Rattle.otel_export.specs.StoredBatches.{StoredBatches}
use Rattle.otel_export.specs.Streams.{AppendsBeginning}
use Rattle.otel_trace_run.specs.Streams.{AreAll, EndsAs, Streams}
use Rattle.otel_trace_run.specs.declared.run_end.RunEnd.{RunEnd}
use Rattle.otel_trace_steps.specs.StepAnswers.{AnswersLines, BeginsAnswers, machine_of}
use Rattle.otel_trace_steps.specs.declared.steps.Sizes.{Sizes}

-- the output was given what answers the lines of the whole input, as they step a batch queue from here to there
pub record StepsTo (start after : Machine StoredBatches) (s : Streams) (bad_line : Option ℕ) : Type 0 where
  pub bytes : List ℕ
  pub answers : List ℕ
  pub all : AreAll s.input bytes
  pub answered : AnswersLines start bytes bad_line answers after
  pub written : Appends s.output s.output_after answers

-- the same of a queue whose exporter lost no batch
pub record StepsAll (start : Machine StoredBatches) (s : Streams) (bad_line : Option ℕ) : Type 0 where
  pub after : Machine StoredBatches
  pub steps : StepsTo start after s bad_line
  pub loses_none : after.exporter.lost ≡ 0

-- the output was given a beginning of what answers a beginning of those lines
pub record StepsSome (start : Machine StoredBatches) (s : Streams) : Type 0 where
  pub bytes : List ℕ
  pub answers : List ℕ
  pub all : AreAll s.input bytes
  pub begun : BeginsAnswers start bytes answers
  pub written : AppendsBeginning s.output s.output_after answers

-- the same of a new batch queue
abbrev pub StepsSized : Sizes → Streams → Option ℕ → Type 0
StepsSized sizes s bad_line = StepsAll (machine_of sizes) s bad_line

abbrev pub StepsBegun : Sizes → Streams → Type 0
StepsBegun sizes s = StepsSome (machine_of sizes) s

-- what stepping a batch queue from here to there did, by how it ended, whatever its exporter lost
abbrev pub StepsOn : Machine StoredBatches → Machine StoredBatches → Streams → RunEnd → Type 0
StepsOn start after s end = EndsAs false (StepsTo start after s) ⊥ (StepsSome start s) s end

-- what a run over a batch queue did, by how it ended
abbrev pub Steps : Machine StoredBatches → Streams → RunEnd → Type 0
Steps start s end = EndsAs false (StepsAll start s) ⊥ (StepsSome start s) s end
