use Rattle.std.specs.Prelude.{◌≡◌, ℕ, Bool, true, false, not, length, Option, None, Result, Ok, refl}
use Rattle.otel_export.specs.declared.trace.export.SpanExporter.{Ghosts}
use Rattle.otel_batch.specs.MachineState.{stranded_in}
use Rattle.otel_pipeline.specs.LeftSpans.{DroppedTold, LeavesTold, left_unless_shut, none_left}
use Rattle.otel_pipeline.specs.ProcessorTelling.{ProcessorTelling}
use Rattle.otel_pipeline.specs.SimpleProcessor.{SimpleProcessor, simple_telling}
use Rattle.otel_processors.specs.BatchProcessor.{BatchProcessor, batch_open_over, batch_telling}
use Rattle.otel_processors.specs.declared.trace.processor.ProcessorOf.{ProcessorOf}
use Rattle.otel_processors.specs.declared.trace.processor.ProcessorOf.TheVariants as kinds

-- a call of a processor of any kind, which does not change the kind
abbrev pub ProcessorGives : {E C : Type 0} → (SimpleProcessor E → SimpleProcessor E → Type 0)
    → (BatchProcessor E → BatchProcessor E → Type 0) → (C → C → Type 0)
    → ProcessorOf E C → ProcessorOf E C → Type 0
ProcessorGives simple batch custom old new = elim old [
  | kinds.Simple a ↦ elim new [ kinds.Simple b ↦ simple a b | kinds.Batch _ ↦ ⊥ | kinds.Custom _ ↦ ⊥ ]
  | kinds.Batch a ↦ elim new [ kinds.Simple _ ↦ ⊥ | kinds.Batch b ↦ batch a b | kinds.Custom _ ↦ ⊥ ]
  | kinds.Custom a ↦ elim new [ kinds.Simple _ ↦ ⊥ | kinds.Batch _ ↦ ⊥ | kinds.Custom b ↦ custom a b ]
]

-- a processor whose exporter's batches were taken is as it was, but for its exporter
abbrev pub ProcessorTakes : {E C : Type 0} → (E → E → Type 0) → ProcessorOf E C → ProcessorOf E C → Type 0
ProcessorTakes takes = ProcessorGives
    (λ a b. (b ≡ record a { exporter = b.exporter }) × takes a.exporter b.exporter)
    (λ a b. (b ≡ record a { machine = record a.machine { exporter = b.machine.exporter } })
    × takes a.machine.exporter b.machine.exporter)
    (λ a b. b ≡ a)

-- a processor for which nothing was due is as it was
pub record NothingDue {P E : Type 0} (old : P) (answer : Result (Unit {0}) E) (new : P) : Type 0 where
  pub ok : answer ≡ Ok tt
  pub rest : new ≡ old

-- how many spans a processor of any kind closed over
abbrev pub closed_over_by_kind : {E C : Type 0} → ProcessorOf E C → Option ℕ
closed_over_by_kind (kinds.Simple _) = None
closed_over_by_kind (kinds.Batch batch) = stranded_in batch.machine
closed_over_by_kind (kinds.Custom _) = None

-- how many spans wait in a processor of any kind while it is open; of one of the caller's own nothing is asked
abbrev pub open_over_by_kind : {E C : Type 0} → ProcessorOf E C → ℕ
open_over_by_kind (kinds.Simple _) = 0
open_over_by_kind (kinds.Batch batch) = batch_open_over batch
open_over_by_kind (kinds.Custom _) = 0

-- how many spans a processor of any kind dropped
abbrev pub dropped_over_by_kind : {E C : Type 0} → ProcessorOf E C → ℕ
dropped_over_by_kind (kinds.Simple _) = 0
dropped_over_by_kind (kinds.Batch batch) = batch.machine.control.dropped
dropped_over_by_kind (kinds.Custom _) = 0

-- how many exports at ends of spans failed
abbrev pub failed_over_by_kind : {E C : Type 0} → ProcessorOf E C → ℕ
failed_over_by_kind (kinds.Simple simple) = simple.failed_exports
failed_over_by_kind (kinds.Batch batch) = batch.failed_exports
failed_over_by_kind (kinds.Custom _) = 0

-- whether it leaves what its telling says
abbrev pub leaves_told_by_kind : {E C : Type 0} → ProcessorOf E C → Bool
leaves_told_by_kind (kinds.Simple _) = true
leaves_told_by_kind (kinds.Batch _) = true
leaves_told_by_kind (kinds.Custom _) = false

module _ {E C : Type 0} (calls : Ghosts E) (told : C → ProcessorTelling) where
  -- what a processor of any kind tells
  abbrev pub telling_by_kind : ProcessorOf E C → ProcessorTelling
  telling_by_kind (kinds.Simple simple) = simple_telling calls simple
  telling_by_kind (kinds.Batch batch) = batch_telling calls batch
  telling_by_kind (kinds.Custom custom) = told custom

  pub tells_left_by_kind : (p : ProcessorOf E C) → LeavesTold (leaves_told_by_kind p) (telling_by_kind p).is_open
      (open_over_by_kind p) (telling_by_kind p).waiting
  tells_left_by_kind (kinds.Simple simple) = none_left (not simple.is_shut)
  tells_left_by_kind (kinds.Batch batch) = left_unless_shut batch.machine.control.closed (length batch.machine.waiting)
  tells_left_by_kind (kinds.Custom custom) = tt

  pub tells_dropped_by_kind : (p : ProcessorOf E C) → DroppedTold (leaves_told_by_kind p) (dropped_over_by_kind p)
      (telling_by_kind p).dropped
  tells_dropped_by_kind (kinds.Simple simple) = refl
  tells_dropped_by_kind (kinds.Batch batch) = refl
  tells_dropped_by_kind (kinds.Custom custom) = tt
