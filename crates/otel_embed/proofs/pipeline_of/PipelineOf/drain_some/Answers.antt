use Rattle.std.proofs.Common.{refl, subst, sym}
use Rattle.otel_pipeline.specs.Calls.{calls_of}
use Rattle.otel_embed.specs.Drains.{Collects}
use Rattle.otel_embed.specs.Pipelines.{PipelineState}
use Rattle.otel_embed.proofs.pipeline_of.PipelineOf.drain_some.Goals as goal

pub returns-clause-ok : goal.returns-clause-ok
returns-clause-ok g c =
    let calls = calls_of g.P.SpanProcessor g.P.Timed g.P.CountsLeftSpans g.P.KeepsBatches g.S.ShouldSample g.G.GivesIds in
    record {
      drains = record {
        collected = record {
          flow = record { provider = c.self.inside.provider; resource = c.self.inside.resource; lines = c.self.inside.lines };
          scopes = c.self.inside.tracers.items;
          spans = c.self.inside.spans;
          gathered = c.self.inside.gathered.items;
          refusals = c.self.inside.refusals;
        };
        collects = subst (λ (p : PipelineState g.row.P.Denot g.row.S.Denot g.row.G.Denot). Collects calls c.args.self.now p) (sym c.self.view_is) c.in_ok-collect_lines.ensures.ok;
        within = c.hand_some.ensures.within;
        hands = c.hand_some.ensures.hands;
        rest = refl;
      };
      some = c.hand_some.ensures.some;
    }
