use Rattle.opentelemetry.proofs.Clauses.{if_ok_map}
use Rattle.otel_embed.proofs.InPlace.{done_with}
use Rattle.otel_embed.proofs.pipeline_of.PipelineOf.start_with.Goals as goal

pub returns-clause-ok : goal.returns-clause-ok
returns-clause-ok g c = if_ok_map c.start-started.result (λ key did. (
  did.0,
  did.1,
  done_with c.args.self.now c.give.new.self c.start-started.new.self c.swap_gathered.new.self c.in_ok-gathered.gathered.items c.in_ok-gathered.ensures.ok.0 c.in_ok-gathered.ensures.ok.2
      c.swap_gathered.ensures.here _ _ c.in_ok-gathered.ensures.ok.1 did.2,
)) c.start-started.ensures.ok
