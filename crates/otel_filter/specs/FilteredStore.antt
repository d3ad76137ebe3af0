-- The batches that an exporter after a filter keeps.
use Rattle.std.specs.Prelude.{◌≡◌, Bool, List, [], ◌∷◌, Result, filter}
use Rattle.std.proofs.Common.{ap}
use Rattle.otel_export.specs.KeptBatches.{ExporterAppends, OnlyAdds, adds_none}
use Rattle.otel_export.specs.PlainSpanData.{PlainSpanData}
use Rattle.otel_export.specs.StoredBatches.{StoredBatches}
use Rattle.otel_export.specs.declared.error.OTelSdkError.{OTelSdkError}
use Rattle.otel_export.specs.declared.trace.export.SpanExporter.{Ghosts}
use Rattle.otel_filter.specs.Filtering.{ExportsAny, ExportsKept, FilterState}

module _ {E : Type 0} {calls : Ghosts E} {stored : E → StoredBatches} (appends : ExporterAppends calls stored) where
  any_adds : (old : E) (spans : List PlainSpanData) (answer : Result (Unit {0}) OTelSdkError) (new : E)
      → ExportsAny calls old spans answer new → OnlyAdds (stored old) (stored new)
  any_adds old [] answer new h = adds_none (stored old) (stored new) (ap stored h.1)
  any_adds old (span ∷ spans) answer new h = appends.exports old (span ∷ spans) answer new h

  -- an export
  pub kept_adds : {F : Type 0} (keeps : F → PlainSpanData → Bool) (old : FilterState E F)
      (batch : List PlainSpanData) (answer : Result (Unit {0}) OTelSdkError) (new : FilterState E F)
      → ExportsKept calls keeps old batch answer new → OnlyAdds (stored old.exporter) (stored new.exporter)
  kept_adds keeps old batch answer new h =
      any_adds old.exporter (filter (keeps old.filter) batch) answer new.exporter h.given
