-- Where the spans go in one step of the batch queue, and what the exporter is asked.
use Rattle.std.specs.Prelude.{◌≡◌, ℕ, [], ◌∷◌, ◌++◌, Option, Result, slice_get}
use Rattle.otel_export.specs.declared.error.OTelSdkError.{OTelSdkError}
use Rattle.otel_export.specs.Telling.{Tells}
use Rattle.otel_batch.specs.Slots.{span_held}
use Rattle.otel_batch.specs.Messages.{resource_in}
use Rattle.otel_batch.specs.MachineState.{Machine}
use Rattle.otel_batch.specs.DrainResult.{IsErrorOf, first_failure}
use Rattle.otel_batch.specs.declared.machine.step.Outcome.{Outcome}
use Rattle.otel_batch.specs.declared.machine.step.Outcome.TheVariants as outcome
use Rattle.otel_batch.specs.declared.machine.step.Step.{Step}
use Rattle.otel_batch.specs.declared.machine.step.Step.TheVariants as step
use Rattle.otel_export.specs.declared.trace.export.SpanExporter.{Ghosts}

-- no span moved, and the exporter is the same
pub record Keeps {E : Type 0} (s t : Machine E) : Type 0 where
  pub exporter : t.exporter ≡ s.exporter
  pub hand : t.hand ≡ s.hand
  pub waiting : t.waiting ≡ s.waiting

-- the span of p goes last among those that wait
pub record QueuesSpan {E : Type 0} (s : Machine E) (p : ℕ) (t : Machine E) : Type 0 where
  pub exporter : t.exporter ≡ s.exporter
  pub hand : t.hand ≡ s.hand
  pub waiting : t.waiting ≡ s.waiting ++ span_held (slice_get s.control.slots p)

-- the first span that waits goes last into the hand
pub record PullsSpan {E : Type 0} (s t : Machine E) : Type 0 where
  pub exporter : t.exporter ≡ s.exporter
  pub both : t.hand ++ t.waiting ≡ s.hand ++ s.waiting

module _ {E : Type 0} (calls : Ghosts E) where
  -- the exporter is handed the hand as a batch. This is the error of its answer, and its answer is the drain's result
  -- unless a batch failed before
  pub record ExportsHand (s : Machine E) (error : Option OTelSdkError) (t : Machine E) : Type 0 where
    pub answer : Result (Unit {0}) OTelSdkError
    pub gives : calls.export_gives s.exporter s.hand answer t.exporter
    pub says : IsErrorOf answer error
    pub kept : t.control.result ≡ first_failure s.control.result answer
    pub told : Tells (calls.told s.exporter) (s.hand ∷ []) (calls.told t.exporter)
    pub hand : t.hand ≡ []
    pub waiting : t.waiting ≡ s.waiting

  -- the exporter is handed the resource of the first message
  pub record PassesResource (s t : Machine E) : Type 0 where
    pub gives : calls.resource_gives s.exporter (resource_in (slice_get s.control.messages 0)) t.exporter
    pub told : calls.told t.exporter ≡ calls.told s.exporter
    pub hand : t.hand ≡ s.hand
    pub waiting : t.waiting ≡ s.waiting

  -- the exporter is shut down, in five seconds; its answer is dropped
  pub record ShutsExporter (s t : Machine E) : Type 0 where
    pub answer : Result (Unit {0}) OTelSdkError
    pub gives : calls.shutdown_gives s.exporter 5_000_000_000 answer t.exporter
    pub told : calls.told t.exporter ≡ calls.told s.exporter
    pub hand : t.hand ≡ s.hand
    pub waiting : t.waiting ≡ s.waiting

  -- where the spans go in one step
  abbrev pub MovesSpans : Machine E → Step → Outcome → Machine E → Type 0
  MovesSpans s (step.Send p) outcome.Accepted t = QueuesSpan s p t
  MovesSpans s step.Pull outcome.Pulled t = PullsSpan s t
  MovesSpans s step.HandOver (outcome.HandedOver k e) t = ExportsHand s e t
  MovesSpans s step.Take outcome.TookResource t = PassesResource s t
  MovesSpans s step.Close (outcome.ShutDown n) t = ShutsExporter s t
  MovesSpans s _ _ t = Keeps s t
