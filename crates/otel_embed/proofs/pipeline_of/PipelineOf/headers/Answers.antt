use Rattle.std.proofs.Common.{subst}
use Rattle.opentelemetry.specs.Carrier.{Texts}
use Rattle.opentelemetry.specs.TextMap.{texts_of}
use Rattle.otel_embed.specs.Pipelines.{SetsHeadersOf}
use Rattle.otel_embed.proofs.HeaderTexts.{no_texts}
use Rattle.otel_embed.proofs.pipeline_of.PipelineOf.headers.Goals as goal

pub returns : goal.returns
returns g c = record {
  texts = texts_of c.inject.new.headers;
  sets = subst (λ (none : Texts). SetsHeadersOf c.args.self.now c.args.span none (texts_of c.inject.new.headers))
      (λ k name. no_texts c.new-carrier.result c.new-carrier.ensures name k) c.in_ok-inject.ensures;
  are_lines = c.in_ok-lines_of.ensures;
}
