-- The batch queue loses no span: what was accepted was handed to the exporter, or is in the worker's hand, or waits.
use Rattle.std.specs.Prelude.{◌≡◌, ℕ, List, [], ◌++◌, length, map}
use Rattle.otel_export.specs.PlainSpanData.{PlainSpanData, spans_in}
use Rattle.otel_batch.specs.PlainBatchConfig.{PlainBatchConfig}
use Rattle.otel_export.specs.Telling.{Tells}
use Rattle.otel_batch.specs.MachineState.{Machine, first_machine}
use Rattle.otel_batch.specs.MachineRun.{accepted, batch_sizes}
use Rattle.otel_batch.specs.declared.machine.step.Outcome.{Outcome}
use Rattle.otel_batch.specs.declared.machine.step.Step.{Step}
use Rattle.otel_export.specs.declared.trace.export.SpanExporter.{Ghosts}

-- a machine as it is made
pub record IsFirst {E : Type 0} (s : Machine E) : Type 0 where
  pub config : PlainBatchConfig
  pub producers : ℕ
  pub made : s ≡ first_machine s.exporter config producers

module _ {E : Type 0} (calls : Ghosts E) where
  -- batches of these sizes were handed to the exporter between two machines, which tells them where it still tells.
  -- They are, followed by what is in hand and what waits, what was in hand and what waited, followed by the accepted
  -- spans
  pub record Conserves (s : Machine E) (accepted_spans : List PlainSpanData) (sizes : List ℕ) (t : Machine E)
      : Type 0 where
    pub batches : List (List PlainSpanData)
    pub sized : map length batches ≡ sizes
    pub told : Tells (calls.told s.exporter) batches (calls.told t.exporter)
    pub conserved : spans_in batches ++ (t.hand ++ t.waiting) ≡ (s.hand ++ s.waiting) ++ accepted_spans

  -- the spans that a new machine accepted are, in order and each once, those of the batches that were handed to the
  -- exporter, those in the worker's hand, and those that wait. The exporter tells these batches where it still tells
  pub record LosesNoSpan (s : Machine E) (xs : List Step) (os : List Outcome) (t : Machine E) : Type 0 where
    pub batches : List (List PlainSpanData)
    pub sized : map length batches ≡ batch_sizes os
    pub told : Tells (calls.told s.exporter) batches (calls.told t.exporter)
    pub conserved : accepted (λ p. []) xs os ≡ spans_in batches ++ (t.hand ++ t.waiting)
