use Rattle.opentelemetry.proofs.Clauses.{on_ok_map}
use Rattle.otel_embed.proofs.InPlace.{done_with}
use Rattle.otel_embed.proofs.pipeline_of.PipelineOf.add_remote_link_with.Goals as goal

pub returns-clause-ok : goal.returns-clause-ok
returns-clause-ok g c = on_ok_map c.add_remote_link-added.result (λ did. done_with c.args.self.now c.give.new.self c.add_remote_link-added.new.self c.swap_gathered.new.self c.in_ok-gathered.gathered.items c.in_ok-gathered.ensures.ok.0 c.in_ok-gathered.ensures.ok.2
    c.swap_gathered.ensures.here _ _ c.in_ok-gathered.ensures.ok.1 did) c.add_remote_link-added.ensures.ok
