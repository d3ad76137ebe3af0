use Rattle.otel_export.specs.declared.trace.exporter_box.ExporterOf.{ExporterOf}
use Rattle.otel_export.specs.declared.trace.exporter_box.ExporterOf.TheVariants as kinds

-- a call of an exporter of either kind, which does not change the kind
abbrev pub ExporterGives : {M C : Type 0} → (M → M → Type 0) → (C → C → Type 0) → ExporterOf M C → ExporterOf M C
    → Type 0
ExporterGives memory custom old new = elim old [
  | kinds.Memory m ↦ elim new [ kinds.Memory n ↦ memory m n | kinds.Custom _ ↦ ⊥ ]
  | kinds.Custom c ↦ elim new [ kinds.Memory _ ↦ ⊥ | kinds.Custom d ↦ custom c d ]
]
