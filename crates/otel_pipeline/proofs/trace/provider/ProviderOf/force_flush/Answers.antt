use Rattle.std.proofs.Common.{◌≡◌, ◌++◌, List, [], length, take, drop, refl, sym, subst, arith, rules}
use Rattle.std.proofs.lemmas.Grind.{common_steps}
use Rattle.otel_pipeline.specs.Deliveries.{EachFollows}
use Rattle.otel_pipeline.specs.Each.{AsksFirst, error_count}
use Rattle.otel_pipeline.specs.Provider.{FlushesProcessor}
use Rattle.otel_pipeline.proofs.Following.{EachFollows-asked}
use Rattle.otel_pipeline.proofs.trace.provider.ProviderOf.force_flush.Goals as goal

pub returns-clause-told : goal.returns-clause-told
returns-clause-told g c =
    let calls = g.P.SpanProcessor in
    let now : List g.row.P.Denot = c.flush_each.new.processors in
    let same : take c.self.inside.processors.len (now ++ drop (length now) c.self.inside.processors.items) ≡ now = grind (arith, common_steps) in
    let asked : AsksFirst (FlushesProcessor calls) c.args.self.now.processors now c.flush_each.result = search rules in
    let follows : EachFollows calls [] c.args.self.now.processors now = EachFollows-asked calls (FlushesProcessor calls) (λ p r q asked. asked.told) c.args.self.now.processors now (error_count asked.0) (asked.0, refl, asked.2) in
    subst (λ (ps : List g.row.P.Denot). EachFollows calls [] c.args.self.now.processors ps) (sym same) follows
