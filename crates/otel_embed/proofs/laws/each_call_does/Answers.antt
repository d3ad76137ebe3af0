use Rattle.otel_pipeline.specs.Calls.{calls_of}
use Rattle.otel_embed.proofs.CallFlows.{calls_do}
use Rattle.otel_embed.proofs.laws.each_call_does.Goals as goal

pub returns : goal.returns
returns g c = calls_do (calls_of g.P.SpanProcessor g.P.Timed g.P.CountsLeftSpans g.P.KeepsBatches g.S.ShouldSample g.G.GivesIds)
