-- Spans that start under their keys.
use Rattle.std.specs.Prelude.{◌≡◌, ℕ, Some, None}
use Rattle.otel_sampling.specs.declared.trace.sampler.ShouldSample as sampling
use Rattle.otel_sampling.specs.declared.trace.id_generator.GivesIds as drawing
use Rattle.otel_pipeline.specs.Provider.{ProviderState}
use Rattle.otel_pipeline.specs.SpanHistory.{SpanHistory, span_of}
use Rattle.otel_pipeline.specs.StartRequest.{StartRequest}
use Rattle.otel_pipeline.specs.Starting.{Starts}
use Rattle.otel_pipeline.specs.declared.trace.span_processor.SpanProcessor.{Ghosts}
use Rattle.otel_embed.specs.Keys.{OpenedSpans, Opens, Puts, span_at}

module _ {P S G : Type 0} (calls : Ghosts P) (sampler : sampling.Ghosts S) (ids : drawing.Ghosts G) where
  -- a span was started as it was asked for, under a key that was free
  pub record StartsUnder (old : ProviderState P S G) (spans : OpenedSpans) (request : StartRequest) (key : ℕ)
      (new : ProviderState P S G) (later : OpenedSpans) : Type 0 where
    pub history : SpanHistory
    pub starts : Starts calls sampler ids old request history new
    pub was_free : span_at spans key ≡ None
    pub puts : Puts spans key (Some (record { span = span_of history; cx = request.cx })) later

  -- a span was started as it was asked for, under the next key
  pub record StartsAt (old : ProviderState P S G) (spans : OpenedSpans) (request : StartRequest) (key : ℕ)
      (new : ProviderState P S G) (later : OpenedSpans) : Type 0 where
    pub history : SpanHistory
    pub starts : Starts calls sampler ids old request history new
    pub opens : Opens spans key (record { span = span_of history; cx = request.cx }) later
