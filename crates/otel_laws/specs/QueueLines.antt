-- The batch queue in front of an exporter of lines: where the spans that it accepted are.
use Rattle.std.specs.Prelude.{◌≡◌, ℕ, List, [], ◌++◌, Option, Some}
use Rattle.std.specs.Io.KnownBytes.{Appends}
use Rattle.otel_resource.specs.Resource.{PlainResource}
use Rattle.otel_export.specs.PlainSpanData.{spans_in}
use Rattle.otel_export.specs.declared.trace.export.SpanExporter.{Ghosts}
use Rattle.otel_batch.specs.Conservation.{IsFirst}
use Rattle.otel_batch.specs.MachineRun.{Run, accepted}
use Rattle.otel_batch.specs.MachineState.{Machine}
use Rattle.otel_batch.specs.declared.machine.step.Outcome.{Outcome}
use Rattle.otel_batch.specs.declared.machine.step.Step.{Step}
use Rattle.otel_lines.specs.Form.{Form}
use Rattle.otel_lines.specs.LineExporter.{LinedBatch, StreamExporter, batches_in, lines_in, new_exporter}

-- a new queue over a new exporter took these steps, and no batch failed to be written
pub record RanOverLines {W : Type 0} (calls : Ghosts (StreamExporter W)) (first : W) (xs : List Step)
    (os : List Outcome) (t : Machine (StreamExporter W)) (lined : List LinedBatch) : Type 0 where
  pub begun : Machine (StreamExporter W)
  pub resource : PlainResource
  pub is_first : IsFirst begun
  pub is_new : begun.exporter ≡ new_exporter first resource
  pub ran : Run calls begun xs os t
  pub written : t.exporter.written ≡ Some lined

module _ {W : Type 0} (form : Form) (contents : W → Option (List ℕ)) where
  -- the spans that were accepted are, in order and each once, those of the batches whose lines were written, those in
  -- the worker's hand and those that wait; and the writer holds what it held at first, and then these lines
  pub record LinesHoldSpans (first : W) (xs : List Step) (os : List Outcome) (t : Machine (StreamExporter W))
      (lined : List LinedBatch) : Type 0 where
    pub conserved : accepted (λ p. []) xs os ≡ spans_in (batches_in lined) ++ (t.hand ++ t.waiting)
    pub lines : Appends (contents first) (contents t.exporter.stream.writer) (lines_in form lined)
