-- What a processor of any kind keeps of its batches, and that none of its calls takes back a batch.
use Rattle.std.specs.Prelude.{◌≡◌, [], refl}
use Rattle.otel_export.specs.KeptBatches.{OnlyAdds}
use Rattle.otel_export.specs.StoredBatches.{StoredBatches, none_stored}
use Rattle.otel_pipeline.specs.SimpleProcessor.{SimpleProcessor}
use Rattle.otel_processors.specs.BatchProcessor.{BatchProcessor}
use Rattle.otel_processors.specs.ProcessorKinds.{ProcessorGives}
use Rattle.otel_processors.specs.declared.trace.processor.ProcessorOf.{ProcessorOf}
use Rattle.otel_processors.specs.declared.trace.processor.ProcessorOf.TheVariants as kinds

module _ {E C : Type 0} (stored : E → StoredBatches) where
  -- what a processor of any kind has stored; nothing where it is of the caller's own, or its exporter is
  abbrev pub processor_stored : ProcessorOf E C → StoredBatches
  processor_stored (kinds.Simple simple) = stored simple.exporter
  processor_stored (kinds.Batch batch) = stored batch.machine.exporter
  processor_stored (kinds.Custom _) = none_stored

  module _ (simple : SimpleProcessor E → SimpleProcessor E → Type 0)
      (batch : BatchProcessor E → BatchProcessor E → Type 0) (custom : C → C → Type 0)
      (Keeps : StoredBatches → StoredBatches → Type 0) (keeps_none : Keeps none_stored none_stored) where
    -- what each kind keeps over a call, a processor of any kind does
    pub processor_keeps :
        ((a b : SimpleProcessor E) → simple a b → Keeps (stored a.exporter) (stored b.exporter))
        → ((a b : BatchProcessor E) → batch a b → Keeps (stored a.machine.exporter) (stored b.machine.exporter))
        → (old new : ProcessorOf E C) → ProcessorGives simple batch custom old new
        → Keeps (processor_stored old) (processor_stored new)
    processor_keeps one other (kinds.Simple a) (kinds.Simple b) h = one a b h
    processor_keeps one other (kinds.Simple a) (kinds.Batch b) h = absurd h
    processor_keeps one other (kinds.Simple a) (kinds.Custom b) h = absurd h
    processor_keeps one other (kinds.Batch a) (kinds.Simple b) h = absurd h
    processor_keeps one other (kinds.Batch a) (kinds.Batch b) h = other a b h
    processor_keeps one other (kinds.Batch a) (kinds.Custom b) h = absurd h
    processor_keeps one other (kinds.Custom a) (kinds.Simple b) h = absurd h
    processor_keeps one other (kinds.Custom a) (kinds.Batch b) h = absurd h
    processor_keeps one other (kinds.Custom a) (kinds.Custom b) h = keeps_none

  module _ (simple : SimpleProcessor E → SimpleProcessor E → Type 0)
      (batch : BatchProcessor E → BatchProcessor E → Type 0) (custom : C → C → Type 0) where
    -- a call that adds batches only after those that are kept
    pub processor_appends :
        ((a b : SimpleProcessor E) → simple a b → OnlyAdds (stored a.exporter) (stored b.exporter))
        → ((a b : BatchProcessor E) → batch a b → OnlyAdds (stored a.machine.exporter) (stored b.machine.exporter))
        → (old new : ProcessorOf E C) → ProcessorGives simple batch custom old new
        → OnlyAdds (processor_stored old) (processor_stored new)
    processor_appends = processor_keeps simple batch custom OnlyAdds (refl, ([], refl))

    -- a call that stores none
    pub processor_stays :
        ((a b : SimpleProcessor E) → simple a b → stored b.exporter ≡ stored a.exporter)
        → ((a b : BatchProcessor E) → batch a b → stored b.machine.exporter ≡ stored a.machine.exporter)
        → (old new : ProcessorOf E C) → ProcessorGives simple batch custom old new
        → processor_stored new ≡ processor_stored old
    processor_stays = processor_keeps simple batch custom (λ old new. new ≡ old) refl
