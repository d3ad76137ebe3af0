-- What a provider is made of where strings configure it (OpenTelemetry specification, "General SDK Configuration").
use Rattle.std.specs.Prelude.{◌≡◌, ◌⊎◌, ℕ, List, [], ◌∷◌, Option, codes}
use Rattle.rand_xoshiro.specs.SplitMix64.{splitmix_seed}
use Rattle.rand_xoshiro.specs.Xoshiro256.{of_seed}
use Rattle.otel_sampling.specs.ConfigStrings.{PlainConfigStrings, IsConfigured, IsConfiguredNumber, IsConfiguredRatio}
use Rattle.otel_sampling.specs.ConfigStrings.{IsConfiguredLength}
use Rattle.otel_resource.specs.DetectedResource.{IsDetected}
use Rattle.otel_sampling.specs.Limits.{default_limits}
use Rattle.otel_sampling.specs.Ratio.{PlainRatio}
use Rattle.otel_sampling.specs.Sampler.{SamplerPlan, plan, always_on, always_off, parent_based, trace_id_ratio_based}
use Rattle.otel_sampling.specs.declared.trace.config.ConfigOf.{ConfigOf}
use Rattle.otel_sampling.specs.declared.trace.sampler.SamplerOf.{SamplerOf}
use Rattle.otel_sampling.specs.declared.trace.id_generator.IdSourceOf.{IdSourceOf}
use Rattle.otel_sampling.specs.declared.trace.id_generator.IdSourceOf.TheVariants as kinds
use Rattle.otel_sampling.specs.declared.trace.span_limit.SpanLimits.{SpanLimits}

-- the names of samplers, where the ratio is that of the sampler's argument
abbrev pub sampler_names : {C : Type 0} → PlainRatio → List (List ℕ × SamplerPlan C)
sampler_names ratio =
    (codes "always_on", always_on)
    ∷ (codes "always_off", always_off)
    ∷ (codes "traceidratio", trace_id_ratio_based ratio)
    ∷ (codes "parentbased_always_on", parent_based always_on)
    ∷ (codes "parentbased_always_off", parent_based always_off)
    ∷ (codes "parentbased_traceidratio", parent_based (trace_id_ratio_based ratio))
    ∷ []

-- a name stands for a sampler among others
abbrev pub IsNamed : {C : Type 0} → List (List ℕ × SamplerPlan C) → List ℕ → SamplerPlan C → Type 0
IsNamed [] name sampler = ⊥
IsNamed (known ∷ others) name sampler = ((name ≡ known.0) × (sampler ≡ known.1)) ⊎ IsNamed others name sampler

-- the sampler that is configured: that of the name; a child as its parent and every root where no sampler has it
abbrev pub IsConfiguredSampler : {C : Type 0} → PlainConfigStrings → SamplerPlan C → Type 0
IsConfiguredSampler strings sampler =
    (ratio : PlainRatio) × IsConfiguredRatio strings.sampler_arg ratio
    × IsConfigured (IsNamed (sampler_names ratio)) strings.sampler (parent_based always_on) sampler

-- a number that a string of its own configures, and where that says nothing a general one, and else the default
pub record IsConfiguredAfter {A : Type 0} (Configured : Option (List ℕ) → A → A → Type 0)
    (own general : Option (List ℕ)) (default value : A) : Type 0 where
  pub after : A
  pub in_general : Configured general default after
  pub in_own : Configured own after value

-- the limits that are configured, the default ones where nothing else is said
pub record AreConfiguredLimits (strings : PlainConfigStrings) (limits : SpanLimits) : Type 0 where
  pub attributes : IsConfiguredAfter (IsConfiguredNumber 32) strings.attribute_count_limit
      strings.general_attribute_count_limit default_limits.max_attributes_per_span limits.max_attributes_per_span
  pub events : IsConfiguredNumber 32 strings.event_count_limit default_limits.max_events_per_span
      limits.max_events_per_span
  pub links : IsConfiguredNumber 32 strings.link_count_limit default_limits.max_links_per_span
      limits.max_links_per_span
  pub attributes_per_event : IsConfiguredNumber 32 strings.event_attribute_count_limit
      default_limits.max_attributes_per_event limits.max_attributes_per_event
  pub attributes_per_link : IsConfiguredNumber 32 strings.link_attribute_count_limit
      default_limits.max_attributes_per_link limits.max_attributes_per_link
  pub value_length : IsConfiguredAfter IsConfiguredLength strings.attribute_value_length_limit
      strings.general_attribute_value_length_limit default_limits.max_attribute_value_length
      limits.max_attribute_value_length

-- what strings and a seed configure
pub record IsConfigOf {C G : Type 0} (strings : PlainConfigStrings) (seed : ℕ)
    (config : ConfigOf (SamplerOf C) (IdSourceOf G)) : Type 0 where
  pub sampler : IsConfiguredSampler strings (plan config.sampler)
  pub id_generator : config.id_generator ≡ kinds.Random (of_seed (splitmix_seed 32 seed))
  pub span_limits : AreConfiguredLimits strings config.span_limits
  pub resource : IsDetected strings.resource config.resource
