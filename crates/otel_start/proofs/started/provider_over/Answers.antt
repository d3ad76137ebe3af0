use Rattle.std.proofs.Common.{subst}
use Rattle.otel_pipeline.specs.ProviderBuilder.{Builds}
use Rattle.otel_start.proofs.started.provider_over.Goals as goal

pub returns : goal.returns
returns g c = record {
  begun = c.in_ok-builder.builder;
  begins = c.in_ok-builder.ensures;
  batch = c.in_ok-with_eager_batch_exporter.ensures.0;
  is_batch = c.in_ok-with_eager_batch_exporter.ensures.1;
  builds = subst (λ built. Builds g.P.SpanProcessor built c.in_ok-provider.provider)
      c.in_ok-with_eager_batch_exporter.ensures.2 c.in_ok-provider.ensures;
}
