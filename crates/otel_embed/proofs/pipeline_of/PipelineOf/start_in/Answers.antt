use Rattle.std.proofs.Common.{[], OnErr, subst}
use Rattle.otel_pipeline.specs.Calls.{calls_of}
use Rattle.otel_pipeline.specs.StartRequest.{start_request}
use Rattle.otel_embed.specs.Pipelines.{PipelineState}
use Rattle.otel_embed.specs.Starts.{RefusesIn}
use Rattle.otel_embed.proofs.Refusing.{start_refused}
use Rattle.otel_embed.proofs.pipeline_of.PipelineOf.start_in.Goals as goal

pub returns-clause-err : goal.returns-clause-err
returns-clause-err g c =
    let calls = calls_of g.P.SpanProcessor g.P.Timed g.P.CountsLeftSpans g.P.KeepsBatches g.S.ShouldSample g.G.GivesIds in
    let begun : PipelineState g.row.P.Denot g.row.S.Denot g.row.G.Denot = record {
      flow = record { provider = c.self.inside.provider; resource = c.self.inside.resource; lines = c.self.inside.lines };
      scopes = c.self.inside.tracers.items;
      spans = c.self.inside.spans;
      gathered = c.self.inside.gathered.items;
      refusals = c.self.inside.refusals;
    } in
    let ended : PipelineState g.row.P.Denot g.row.S.Denot g.row.G.Denot =
    record begun { flow = record begun.flow { provider = c.start.new.provider }; spans = c.start.new.self; gathered = [] } in
    let request = start_request c.in-Ok.tracer.now c.with_attributes-builder.result c.args.cx c.args.start.moment.0 in
    subst (λ (old : PipelineState g.row.P.Denot g.row.S.Denot g.row.G.Denot). OnErr c.start.result (RefusesIn calls old ended)) c.self.view_is
    (start_refused calls c.start.result begun request c.start.new.self c.start.new.provider c.start.ensures.err c.start.ensures.asks)
