-- How a program's scope starts over an exporter.
use Rattle.std.specs.Prelude.{◌≡◌, ℕ, List, [], ◌∷◌, ◌++◌, IsOk, Result}
use Rattle.opentelemetry.specs.Plain.{scope_named}
use Rattle.otel_sampling.specs.ConfigStrings.{PlainBatchStrings, PlainConfigStrings}
use Rattle.otel_sampling.specs.declared.trace.id_generator.IdSourceOf.{IdSourceOf}
use Rattle.otel_sampling.specs.declared.trace.sampler.SamplerOf.{SamplerOf}
use Rattle.otel_pipeline.specs.Provider.{ProviderState}
use Rattle.otel_pipeline.specs.ProviderBuilder.{BeginsBy, BuilderState, Builds}
use Rattle.otel_pipeline.specs.declared.trace.span_processor.SpanProcessor.{Ghosts}
use Rattle.otel_scope.specs.Currents.{at_root}
use Rattle.otel_scope.specs.declared.tracing.Tracing.{Tracing}
use Rattle.otel_probability.specs.declared.probability_based.ConsistentProbabilityBased.{ConsistentProbabilityBased}
use Rattle.otel_propagation.specs.declared.propagation.composite_list.TextMapCompositePropagator.{TextMapCompositePropagator}
use Rattle.otel_propagation.specs.declared.propagation.custom.NoopTextMapPropagator.{NoopTextMapPropagator}
use Rattle.otel_propagation.specs.declared.propagation.propagator_kinds.PropagatorOf.{PropagatorOf}
use Rattle.otel_sampling.specs.declared.trace.id_generator.RandomIdGenerator.{RandomIdGenerator}
use Rattle.otel_pipeline.specs.declared.trace.counts_left_spans.CountsLeftSpans as leaving
use Rattle.otel_start.specs.Closing.{ClosesWhole}
use Rattle.otel_start.specs.declared.started.Settings.{Settings}

module _ {P S G X : Type 0} (calls : Ghosts P) (eager_batch_of : X → PlainBatchStrings → P → Type 0) where
  -- a provider is what strings make of one batch processor over an exporter, which exports a full batch where the span
  -- ends that fills it
  pub record IsProviderOver (strings : PlainConfigStrings) (seed : ℕ) (exporter : X)
      (provider : ProviderState P (SamplerOf S) (IdSourceOf G)) : Type 0 where
    pub begun : BuilderState P (SamplerOf S) (IdSourceOf G)
    pub begins : BeginsBy strings seed begun
    pub batch : P
    pub is_batch : eager_batch_of exporter begun.batch_strings batch
    pub builds : Builds calls (record begun { processors = begun.processors ++ batch ∷ [] }) provider

  -- a scope of a library of this name over such a provider, in which no span is current and none is lost
  pub record IsStarted {C T : Type 0} (name : List ℕ) (settings : Settings C T) (exporter : X)
      (begun : Tracing P (SamplerOf S) (IdSourceOf G) C T) : Type 0 where
    pub provider : IsProviderOver settings.strings settings.seed exporter begun.provider
    pub tracer : begun.tracer ≡ scope_named name
    pub clock : begun.clock ≡ settings.clock
    pub propagator : begun.propagator ≡ settings.propagator
    pub current : begun.current ≡ at_root
    pub lost : begun.lost ≡ 0

-- the scope of a program by its host
abbrev pub HostScope : Type 0 → Type 0 → Type 0
HostScope P C = Tracing P (SamplerOf ConsistentProbabilityBased) (IdSourceOf RandomIdGenerator) C
    (TextMapCompositePropagator (PropagatorOf NoopTextMapPropagator))

module _ {P C : Type 0} (calls : Ghosts P) (queues : leaving.Ghosts P) (tells : C → ℕ → C → Type 0) where
  -- a program ran, of which this is known, without an error; its scope was closed afterwards, and nothing was lost
  pub record RunsWhole {E : Type 0} (answers : Result (Unit {0}) E → Type 0) : Type 0 where
    pub answer : Result (Unit {0}) E
    pub answered : answers answer
    pub went_well : IsOk answer
    pub left : HostScope P C
    pub closes : ClosesWhole calls queues tells left
