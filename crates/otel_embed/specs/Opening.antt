-- What a pipeline of a host begins as: nothing was started, exported or gathered.
use Rattle.std.specs.Prelude.{◌≡◌, ℕ, List, [], ◌∷◌, ◌++◌, Some, codes, false, unwrap_or}
use Rattle.opentelemetry.specs.Plain.{scope_named}
use Rattle.opentelemetry.specs.TextMap.{TextMap}
use Rattle.otel_batch.specs.PlainBatchConfig.{IsBatchConfigOf, PlainBatchConfig}
use Rattle.otel_export.specs.StoredBatches.{none_stored}
use Rattle.otel_export.specs.declared.trace.exporter_box.ExporterOf.TheVariants as exporters
use Rattle.otel_pipeline.specs.ProviderBuilder.{Builds}
use Rattle.otel_pipeline.specs.SimpleProcessor.{first_simple}
use Rattle.otel_pipeline.specs.declared.trace.span_processor.SpanProcessor.{Ghosts}
use Rattle.otel_processors.specs.BatchProcessor.{eager_processor, first_processor}
use Rattle.otel_processors.specs.declared.trace.processor.ProcessorOf.TheVariants as processors
use Rattle.otel_sampling.specs.Config.{IsConfigOf}
use Rattle.otel_sampling.specs.ConfigStrings.{PlainBatchStrings, PlainConfigStrings, is_true}
use Rattle.otel_sampling.specs.declared.trace.config.ConfigOf.{ConfigOf}
use Rattle.otel_sampling.specs.declared.trace.id_generator.IdSourceOf.{IdSourceOf}
use Rattle.otel_sampling.specs.declared.trace.sampler.SamplerOf.{SamplerOf}
use Rattle.otel_embed.specs.Conserved.{Hosted, HostedExporter}
use Rattle.otel_embed.specs.HeldLines.{no_lines}
use Rattle.otel_embed.specs.IgnoredSettings.{ListsIgnored}
use Rattle.otel_embed.specs.Pipelines.{PipelineState, gone_on}
use Rattle.otel_embed.specs.SettingLines.{AreStringsOf, IsMaxUndrained, processor_kind, settings_of}
use Rattle.otel_embed.specs.declared.pipeline.TheConstants.{LIBRARY}
use Rattle.otel_embed.specs.declared.settings.ProcessorKind.{ProcessorKind}
use Rattle.otel_embed.specs.declared.settings.ProcessorKind.TheVariants as kinds

-- one of three facts, by the kind of a processor
abbrev pub MatchKind : ProcessorKind → Type 0 → Type 0 → Type 0 → Type 0
MatchKind kinds.Simple Simple Batch Eager = Simple
MatchKind kinds.Batch Simple Batch Eager = Batch
MatchKind kinds.Eager Simple Batch Eager = Eager

-- a pipeline that strings and a seed configure, with one processor of which this is so by its own strings
pub record BeginsAs {P C G : Type 0} (calls : Ghosts P) (IsProcessor : PlainBatchStrings → P → Type 0)
    (strings : PlainConfigStrings) (seed : ℕ) (pipeline : PipelineState P (SamplerOf C) (IdSourceOf G)) : Type 0 where
  pub processor : P
  pub is_processor : IsProcessor strings.batch processor
  pub config : ConfigOf (SamplerOf C) (IdSourceOf G)
  pub is_config : IsConfigOf strings seed config
  pub builds : Builds calls (record {
    processors = processor ∷ [];
    config = config;
    batch_strings = strings.batch;
    has_given_resource = false;
    is_disabled = is_true strings.sdk_disabled;
  }) pipeline.flow.provider
  pub rest : pipeline ≡ record {
    flow = record { provider = pipeline.flow.provider; resource = config.resource; lines = no_lines };
    scopes = scope_named (codes "otel") ∷ [];
    spans = record { entries = []; next_key = 1 };
    gathered = [];
    refusals = 0;
  }

-- a processor of a host over an exporter
abbrev pub IsProcessorOver : HostedExporter → ProcessorKind → PlainBatchStrings → Hosted → Type 0
IsProcessorOver exporter kind strings made = MatchKind kind (made ≡ processors.Simple (first_simple exporter))
    ((config : PlainBatchConfig) × IsBatchConfigOf strings config
    × (made ≡ processors.Batch (first_processor exporter config)))
    ((config : PlainBatchConfig) × IsBatchConfigOf strings config
    × (made ≡ processors.Batch (eager_processor exporter config)))

-- strings whose resource says first that this library made it, for C; what their own attributes say comes later, and wins
abbrev pub naming_library : PlainConfigStrings → PlainConfigStrings
naming_library strings = record strings {
  resource = record strings.resource
      { attributes = Some (LIBRARY.now ++ unwrap_or strings.resource.attributes []) };
}

-- a pipeline that settings open by strings and a seed: over an exporter in memory that stores nothing yet and may keep so
-- many spans
pub record OpensOver {C G : Type 0} (calls : Ghosts Hosted) (settings : TextMap) (strings : PlainConfigStrings)
    (seed : ℕ) (pipeline : PipelineState Hosted (SamplerOf C) (IdSourceOf G)) : Type 0 where
  pub max_spans : ℕ
  pub is_max : IsMaxUndrained settings max_spans
  pub begins : BeginsAs calls (IsProcessorOver (exporters.Memory (record none_stored { max_spans = max_spans }))
      (processor_kind settings)) strings seed pipeline

-- the same by the strings that they are, with a list of what is ignored
pub record OpensWith {C G : Type 0} (calls : Ghosts Hosted) (settings : TextMap) (seed : ℕ)
    (pipeline : PipelineState Hosted (SamplerOf C) (IdSourceOf G)) (ignored : List ℕ) : Type 0 where
  pub strings : PlainConfigStrings
  pub are_strings : AreStringsOf settings strings
  pub opens : OpensOver calls settings (naming_library strings) seed pipeline
  pub lists : ListsIgnored settings strings ignored

-- a pipeline that a text of settings and a seed open
abbrev pub OpensBy : {C G : Type 0} → Ghosts Hosted → List ℕ → ℕ → PipelineState Hosted (SamplerOf C) (IdSourceOf G)
    → List ℕ → Type 0
OpensBy calls text seed pipeline ignored = OpensWith calls (settings_of text) seed pipeline ignored

-- a pipeline goes on in the child of a fork, by its settings and another seed
pub record GoesOn {C G : Type 0} (calls : Ghosts Hosted) (settings : TextMap) (seed : ℕ)
    (old new : PipelineState Hosted (SamplerOf C) (IdSourceOf G)) : Type 0 where
  pub fresh : PipelineState Hosted (SamplerOf C) (IdSourceOf G)
  pub ignored : List ℕ
  pub opens : OpensWith calls settings seed fresh ignored
  pub goes_on : new ≡ gone_on old fresh
