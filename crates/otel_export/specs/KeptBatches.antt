-- The batches that an exporter keeps, those that were taken, and how many it lost. A call of an exporter only adds batches
-- after those that are kept.
use Rattle.std.specs.Prelude.{◌≡◌, ◌++◌, ℕ, List, [], ◌∷◌, Result, Ok, Err, refl}
use Rattle.std.proofs.Common.{ap, sym, subst, ◌∙◌, append-nil, append_assoc}
use Rattle.otel_resource.specs.Resource.{PlainResource}
use Rattle.otel_export.specs.declared.error.OTelSdkError.{OTelSdkError}
use Rattle.otel_export.specs.ExporterKinds.{ExporterGives}
use Rattle.otel_export.specs.PlainSpanData.{PlainSpanData}
use Rattle.otel_export.specs.StoredBatches.{StoredBatches, StoresBatch, none_stored}
use Rattle.otel_export.specs.declared.trace.export.SpanExporter.{Ghosts}
use Rattle.otel_export.specs.declared.trace.exporter_box.ExporterOf.{ExporterOf}
use Rattle.otel_export.specs.declared.trace.exporter_box.ExporterOf.TheVariants as exporters

-- a list and another that begins with it
abbrev pub Grows : {X : Type 0} → List X → List X → Type 0
Grows {X} old new = (more : List X) × (new ≡ old ++ more)

-- what was taken stays so, and what is kept grows
abbrev pub OnlyAdds : StoredBatches → StoredBatches → Type 0
OnlyAdds old new = (new.taken ≡ old.taken) × Grows old.batches new.batches

pub adds_none : (old new : StoredBatches) → new ≡ old → OnlyAdds old new
adds_none old new same =
    subst (λ (x : StoredBatches). OnlyAdds old x) (sym same) (refl, ([], sym (append-nil old.batches)))

pub grows_more : {X : Type 0} (one two three : List X) → Grows one two → Grows two three → Grows one three
grows_more {X} one two three h k =
    (h.0 ++ k.0, k.1 ∙ ap (λ (l : List X). l ++ k.0) h.1 ∙ append_assoc one h.0 k.0)

pub adds_more : (one two three : StoredBatches) → OnlyAdds one two → OnlyAdds two three → OnlyAdds one three
adds_more one two three h k = (k.0 ∙ h.0, grows_more one.batches two.batches three.batches h.1 k.1)

-- no call of an exporter takes back a batch that it keeps
pub record ExporterAppends {E : Type 0} (calls : Ghosts E) (stored : E → StoredBatches) : Type 0 where
  pub exports : (old : E) (batch : List PlainSpanData) (answer : Result (Unit {0}) OTelSdkError) (new : E)
      → calls.export_gives old batch answer new → OnlyAdds (stored old) (stored new)
  pub shuts : (old : E) (timeout : ℕ) (answer : Result (Unit {0}) OTelSdkError) (new : E)
      → calls.shutdown_gives old timeout answer new → OnlyAdds (stored old) (stored new)
  pub passes : (old : E) (resource : PlainResource) (new : E)
      → calls.resource_gives old resource new → OnlyAdds (stored old) (stored new)

-- what an exporter of either kind has stored: nothing where it is not the one in memory
abbrev pub exporter_stored : {C : Type 0} → ExporterOf StoredBatches C → StoredBatches
exporter_stored (exporters.Memory memory) = memory
exporter_stored (exporters.Custom _) = none_stored

-- a call of an exporter of either kind adds where that of the one in memory does
pub either_adds : {C : Type 0} (memory : StoredBatches → StoredBatches → Type 0) (custom : C → C → Type 0)
    → ((m n : StoredBatches) → memory m n → OnlyAdds m n) → (old new : ExporterOf StoredBatches C)
    → ExporterGives memory custom old new → OnlyAdds (exporter_stored old) (exporter_stored new)
either_adds memory custom adds (exporters.Memory m) (exporters.Memory n) h = adds m n h
either_adds memory custom adds (exporters.Memory m) (exporters.Custom d) h = absurd h
either_adds memory custom adds (exporters.Custom c) (exporters.Memory n) h = absurd h
either_adds memory custom adds (exporters.Custom c) (exporters.Custom d) h = (refl, ([], refl))

-- an export into memory
pub memory_adds : (batch : List PlainSpanData) (answer : Result (Unit {0}) OTelSdkError) (m n : StoredBatches)
    → StoresBatch m batch answer n → OnlyAdds m n
memory_adds batch (Ok _) m n h =
    subst (λ (x : StoredBatches). OnlyAdds m x) (sym h) (refl, (batch ∷ [], refl))
memory_adds batch (Err _) m n h =
    subst (λ (x : StoredBatches). OnlyAdds m x) (sym h.1) (refl, ([], sym (append-nil m.batches)))
