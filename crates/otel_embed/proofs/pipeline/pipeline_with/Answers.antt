use Rattle.std.proofs.Common.{rules, ◌≡◌, ◌∙◌, subst}
use Rattle.otel_sampling.specs.ConfigStrings.{PlainBatchStrings}
use Rattle.otel_embed.specs.Opening.{MatchKind}
use Rattle.otel_embed.proofs.Opening.{built_over}
use Rattle.otel_embed.proofs.pipeline.pipeline_with.Goals as goal

pub returns : goal.returns
returns g c =
    let made = c.in_ok-with_processor.ensures.0 in
    let batch : c.in_ok-batch_strings.batch_strings ≡ c.args.strings.now.batch = search rules in
    record {
      processor = made;
      is_processor = subst (λ (b : PlainBatchStrings). MatchKind c.args.kind (made ≡ g.P.FromExporter.simple_of c.args.exporter)
          (g.P.FromExporter.batch_of c.args.exporter b made) (g.P.FromExporter.eager_batch_of c.args.exporter b made))
          ((λ k. (c.builder_with_config-builder.ensures k).batch_strings) ∙ batch) c.in_ok-with_processor.ensures.1;
      config = c.in_ok-config.config;
      is_config = c.in_ok-config.ensures;
      builds = built_over g.P.SpanProcessor c.in_ok-config.config made _ _ _ _ _ _ c.builder_with_config-builder.ensures batch
          c.is_sdk_disabled-is_disabled.ensures c.in_ok-with_processor.ensures.2 _ _ (λ k. (c.over.ensures k).flow.provider) c.in_ok-provider.ensures;
      rest = search rules;
    }
