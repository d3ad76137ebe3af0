-- What a processor over an exporter in memory heard.
use Rattle.std.proofs.Common.{◌≡◌, ◌∙◌, ◌++◌, ℕ, zero, suc, List, [], Option, Some, None, ap, sym, refl, append-nil}
use Rattle.otel_export.specs.KeptBatches.{exporter_stored}
use Rattle.otel_export.specs.PlainSpanData.{PlainSpanData, spans_in}
use Rattle.otel_export.specs.StoredBatches.{all_stored, stored_told, told_unless_lost}
use Rattle.otel_export.specs.Telling.{and_then_told}
use Rattle.otel_export.specs.declared.trace.exporter_box.ExporterOf.TheVariants as exporters
use Rattle.otel_pipeline.specs.ProcessorTelling.{spans_told}
use Rattle.otel_embed.specs.Conserved.{HostedExporter, KeepsInMemory}

-- the batches are told where none was lost
told_all : (lost : ℕ) (batches : List (List PlainSpanData)) → lost ≡ 0 → told_unless_lost lost batches ≡ Some batches
told_all zero batches e = refl
told_all (suc lost) batches e = cc

-- what an exporter in memory tells
abbrev pub told_of : HostedExporter → Option (List (List PlainSpanData))
told_of e = elim e [ exporters.Memory memory ↦ stored_told memory | exporters.Custom _ ↦ None ]

exporter_tells : (e : HostedExporter) → KeepsInMemory e → (exporter_stored e).lost ≡ 0 → spans_told (told_of e) ≡ Some (spans_in (all_stored (exporter_stored e)))
exporter_tells (exporters.Memory memory) is none = ap spans_told (told_all memory.lost (all_stored memory) none)
exporter_tells (exporters.Custom _) is none = absurd is

-- a simple processor's exporter, and one after a queue
pub simple_hears : (e : HostedExporter) → KeepsInMemory e → (exporter_stored e).lost ≡ 0 → spans_told (told_of e) ≡ Some (spans_in (all_stored (exporter_stored e)) ++ [])
simple_hears e is none = exporter_tells e is none ∙ ap Some (sym (append-nil (spans_in (all_stored (exporter_stored e)))))

pub queue_hears : (e : HostedExporter) (waiting : List PlainSpanData) → KeepsInMemory e → (exporter_stored e).lost ≡ 0
    → and_then_told (spans_told (told_of e)) waiting ≡ Some (spans_in (all_stored (exporter_stored e)) ++ waiting)
queue_hears e waiting is none = ap (λ (told : Option (List PlainSpanData)). and_then_told told waiting) (exporter_tells e is none)
