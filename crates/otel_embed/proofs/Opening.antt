-- The provider that a pipeline opens over is what the builder of its one processor builds; and what opens by the settings
-- of a text opens by that text.
use Rattle.std.proofs.Common.{◌≡◌, ◌++◌, ◌∷◌, ◌∙◌, [], ℕ, Bool, false, List, ap, subst, sym}
use Rattle.opentelemetry.specs.TextMap.{TextMap}
use Rattle.otel_sampling.specs.ConfigStrings.{PlainBatchStrings, PlainConfigStrings}
use Rattle.otel_sampling.specs.declared.trace.config.ConfigOf.{ConfigOf}
use Rattle.otel_sampling.specs.declared.trace.id_generator.IdSourceOf.{IdSourceOf}
use Rattle.otel_sampling.specs.declared.trace.sampler.SamplerOf.{SamplerOf}
use Rattle.otel_export.specs.StoredBatches.{StoredBatches, none_stored}
use Rattle.otel_export.specs.declared.trace.exporter_box.ExporterOf.TheVariants as exporters
use Rattle.otel_pipeline.specs.Provider.{ProviderState}
use Rattle.otel_pipeline.specs.ProviderBuilder.{BuilderState, Builds}
use Rattle.otel_pipeline.specs.declared.trace.span_processor.SpanProcessor.{Ghosts}
use Rattle.otel_embed.specs.Conserved.{Hosted}
use Rattle.otel_embed.specs.IgnoredSettings.{ListsIgnored}
use Rattle.otel_embed.specs.Opening.{BeginsAs, IsProcessorOver, OpensBy, OpensOver, OpensWith, naming_library}
use Rattle.otel_embed.specs.Pipelines.{PipelineState}
use Rattle.otel_embed.specs.SettingLines.{AreStringsOf, IsMaxUndrained, processor_kind, settings_of}
use Rattle.otel_embed.specs.declared.settings.ProcessorKind.{ProcessorKind}

module _ {P S G : Type 0} (calls : Ghosts P) (config : ConfigOf S G) (made : P) where
  -- a builder of no processor, and one to which this one was added
  abbrev empty_builder : PlainBatchStrings → Bool → BuilderState P S G
  empty_builder batch is_disabled =
      record { processors = []; config = config; batch_strings = batch; has_given_resource = false; is_disabled = is_disabled }

  pub built_over : (builder built : BuilderState P S G) (given batch : PlainBatchStrings) (disabled is_disabled : Bool)
      → builder ≡ empty_builder given disabled → given ≡ batch → disabled ≡ is_disabled
      → built ≡ record builder { processors = builder.processors ++ made ∷ [] } → (provider opened : ProviderState P S G) → opened ≡ provider
      → Builds calls built provider → Builds calls (record (empty_builder batch is_disabled) { processors = made ∷ [] }) opened
  built_over builder built given batch disabled is_disabled begun strings off added provider opened same builds =
      let over_added = subst (λ (b : BuilderState P S G). Builds calls b provider) added builds in
      let over_begun = subst (λ (b : BuilderState P S G). Builds calls (record b { processors = b.processors ++ made ∷ [] }) provider) begun over_added in
      let over_strings = subst (λ (s : PlainBatchStrings). Builds calls (record (empty_builder s disabled) { processors = made ∷ [] }) provider) strings over_begun in
      let over_all = subst (λ (d : Bool). Builds calls (record (empty_builder batch d) { processors = made ∷ [] }) provider) off over_strings in
      subst (λ (p : ProviderState P S G). Builds calls (record (empty_builder batch is_disabled) { processors = made ∷ [] }) p) (sym same) over_all

-- what a kind opens over an exporter that may keep so many spans is what the settings open that they are of
pub opened_over : {C G : Type 0} (calls : Ghosts Hosted) (settings : TextMap) (strings : PlainConfigStrings) (kind : ProcessorKind) (max_spans : ℕ) (stored : StoredBatches) (seed : ℕ)
    (pipeline : PipelineState Hosted (SamplerOf C) (IdSourceOf G)) → kind ≡ processor_kind settings → IsMaxUndrained settings max_spans → stored ≡ record none_stored { max_spans = max_spans }
    → BeginsAs calls (IsProcessorOver (exporters.Memory stored) kind) strings seed pipeline → OpensOver calls settings strings seed pipeline
opened_over calls settings strings kind max_spans stored seed pipeline is_kind is_max is_empty begins = record {
  max_spans = max_spans;
  is_max = is_max;
  begins = subst (λ (k : ProcessorKind). BeginsAs calls (IsProcessorOver (exporters.Memory (record none_stored { max_spans = max_spans })) k) strings seed pipeline) is_kind
      (subst (λ (s : StoredBatches). BeginsAs calls (IsProcessorOver (exporters.Memory s) kind) strings seed pipeline) is_empty begins);
}

-- what settings open by their own strings, with the library named in these
pub opened_with : {C G : Type 0} (calls : Ghosts Hosted) (settings : TextMap) (strings named : PlainConfigStrings) (seed : ℕ)
    (pipeline : PipelineState Hosted (SamplerOf C) (IdSourceOf G)) (ignored : List ℕ) → AreStringsOf settings strings → named ≡ naming_library strings
    → OpensOver calls settings named seed pipeline → ListsIgnored settings strings ignored → OpensWith calls settings seed pipeline ignored
opened_with calls settings strings named seed pipeline ignored are_strings is_named opens lists = record {
  strings = strings;
  are_strings = are_strings;
  opens = subst (λ (s : PlainConfigStrings). OpensOver calls settings s seed pipeline) is_named opens;
  lists = lists;
}

-- and what those open their text does
pub opened_by : {C G : Type 0} (calls : Ghosts Hosted) (text given : List ℕ) (settings : TextMap) (seed : ℕ) (pipeline : PipelineState Hosted (SamplerOf C) (IdSourceOf G)) (ignored : List ℕ)
    → given ≡ text → settings ≡ settings_of given → OpensWith calls settings seed pipeline ignored → OpensBy calls text seed pipeline ignored
opened_by calls text given settings seed pipeline ignored is_text are_settings opens =
    subst (λ (s : TextMap). OpensWith calls s seed pipeline ignored) (are_settings ∙ ap settings_of is_text) opens
