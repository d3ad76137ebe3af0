-- What a provider is made of, step by step, and what making it does (OpenTelemetry specification, "TracerProvider
-- Creation").
use Rattle.std.specs.Prelude.{◌≡◌, ◌<◌, ◌++◌, ◌∷◌, ℕ, Bool, true, false, List, [], Result, MatchBool}
use Rattle.std.specs.declared.alloc.AllocError.{AllocError}
use Rattle.otel_sampling.specs.Config.{IsConfigOf}
use Rattle.otel_sampling.specs.ConfigStrings.{PlainBatchStrings, PlainConfigStrings, is_true}
use Rattle.otel_resource.specs.Resource.{PlainResource, merge}
use Rattle.otel_sampling.specs.declared.trace.config.ConfigOf.{ConfigOf}
use Rattle.otel_sampling.specs.declared.trace.id_generator.IdSourceOf.{IdSourceOf}
use Rattle.otel_sampling.specs.declared.trace.sampler.SamplerOf.{SamplerOf}
use Rattle.otel_sampling.specs.declared.trace.span_limit.SpanLimits.{SpanLimits}
use Rattle.otel_pipeline.specs.Each.{AsksAll}
use Rattle.otel_pipeline.specs.Provider.{ProviderState}
use Rattle.otel_pipeline.specs.declared.trace.span_processor.SpanProcessor.{Ghosts}

-- a builder: its processors, what else the provider is made of, the strings of its batch processors, whether its
-- resource was handed in, and whether the provider is to record nothing
pub record BuilderState (P S G : Type 0) : Type 0 where
  pub processors : List P
  pub config : ConfigOf S G
  pub batch_strings : PlainBatchStrings
  pub has_given_resource : Bool
  pub is_disabled : Bool

-- the builder that strings and a seed begin: it has no processor, and what they configure
pub record BeginsBy {P C G : Type 0} (strings : PlainConfigStrings) (seed : ℕ)
    (builder : BuilderState P (SamplerOf C) (IdSourceOf G)) : Type 0 where
  pub processors : builder.processors ≡ []
  pub config : IsConfigOf strings seed builder.config
  pub batch_strings : builder.batch_strings ≡ strings.batch
  pub has_given_resource : builder.has_given_resource ≡ false
  pub is_disabled : builder.is_disabled ≡ is_true strings.sdk_disabled

-- a builder of a configuration, without processors
abbrev pub first_builder : {P S G : Type 0} → ConfigOf S G → PlainBatchStrings → Bool → BuilderState P S G
first_builder config batch_strings is_disabled = record {
  processors = [];
  config = config;
  batch_strings = batch_strings;
  has_given_resource = false;
  is_disabled = is_disabled;
}

-- a builder has one more processor, of which this is so
abbrev pub AddsProcessor : {P S G : Type 0} → (P → Type 0) → BuilderState P S G → BuilderState P S G → Type 0
AddsProcessor {P} IsOne builder built =
    (added : P) × IsOne added × (built ≡ record builder { processors = builder.processors ++ added ∷ [] })

-- a builder of other limits
abbrev pub with_limits : {P S G : Type 0} → BuilderState P S G → SpanLimits → BuilderState P S G
with_limits builder limits = record builder { config = record builder.config { span_limits = limits } }

-- the resource where one more is handed in: the first takes the place of the configured one, a later one is merged over
-- those before it
abbrev pub resource_with : Bool → PlainResource → PlainResource → PlainResource
resource_with false configured resource = resource
resource_with true given resource = merge given resource

-- a builder of this resource, which was handed in
abbrev pub given_resource : {P S G : Type 0} → BuilderState P S G → PlainResource → BuilderState P S G
given_resource builder resource =
    record builder { config = record builder.config { resource = resource }; has_given_resource = true }

-- a builder to which a resource was handed in
abbrev pub with_resource : {P S G : Type 0} → BuilderState P S G → PlainResource → BuilderState P S G
with_resource builder resource =
    given_resource builder (resource_with builder.has_given_resource builder.config.resource resource)

-- the provider over these processors that a configuration makes, which is open
abbrev pub open_provider : {P S G : Type 0} → List P → ConfigOf S G → ProviderState P S G
open_provider processors config = record {
  processors = processors;
  sampler = config.sampler;
  id_generator = config.id_generator;
  span_limits = config.span_limits;
  is_shut = false;
  is_disabled = false;
}

-- the provider of a configuration that records nothing: it is shut from the first, and has no processors
abbrev pub disabled_provider : {P S G : Type 0} → ConfigOf S G → ProviderState P S G
disabled_provider config = record (open_provider [] config) { is_shut = true; is_disabled = true }

module _ {P : Type 0} (calls : Ghosts P) where
  -- a processor was told the resource: it answers as its call can, and tells what it told
  pub record TakesResource (resource : PlainResource) (old : P) (answer : Result (Unit {0}) AllocError) (new : P)
      : Type 0 where
    pub gives : calls.resource_gives old resource answer new
    pub told : calls.told new ≡ calls.told old

  -- the provider that a builder opens, where each processor took its resource
  pub record Opens {S G : Type 0} (builder : BuilderState P S G) (provider : ProviderState P S G) : Type 0 where
    pub told : AsksAll (TakesResource builder.config.resource) builder.processors provider.processors 0
    pub rest : provider ≡ open_provider provider.processors builder.config

  -- the provider that a builder makes: one that records nothing where it was disabled
  abbrev pub Builds : {S G : Type 0} → BuilderState P S G → ProviderState P S G → Type 0
  Builds builder provider =
      MatchBool builder.is_disabled (provider ≡ disabled_provider builder.config) (Opens builder provider)

  -- each processor of a builder was told its resource, and some refused it
  pub record RefusesResource {S G : Type 0} (old new : BuilderState P S G) : Type 0 where
    pub is_enabled : old.is_disabled ≡ false
    pub refused : ℕ
    pub some : 0 < refused
    pub told : AsksAll (TakesResource old.config.resource) old.processors new.processors refused
    pub rest : new ≡ record old { processors = new.processors }
