use Rattle.otel_pipeline.specs.Calls.{calls_of}
use Rattle.otel_embed.proofs.Conserving.{calls_conserve}
use Rattle.otel_embed.proofs.laws.calls_conserve_spans.Goals as goal

pub returns : goal.returns
returns g c =
    calls_conserve (calls_of g.P.SpanProcessor g.P.Timed g.P.CountsLeftSpans g.P.KeepsBatches g.S.ShouldSample g.G.GivesIds)
    g.met.P.KeepsBatches.appends
