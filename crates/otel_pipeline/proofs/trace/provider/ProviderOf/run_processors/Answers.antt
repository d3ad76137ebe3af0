use Rattle.std.proofs.Common.{◌≡◌, ◌++◌, List, [], length, take, drop, sym, subst, rules, arith}
use Rattle.std.proofs.lemmas.Grind.{common_steps}
use Rattle.otel_pipeline.specs.Deliveries.{EachFollows}
use Rattle.otel_pipeline.specs.Provider.{RunsProcessor}
use Rattle.otel_pipeline.proofs.Following.{EachFollows-asked}
use Rattle.otel_pipeline.proofs.trace.provider.ProviderOf.run_processors.Goals as goal

pub returns-clause-told : goal.returns-clause-told
returns-clause-told g c =
    let calls = g.P.SpanProcessor in
    let now : List g.row.P.Denot = c.run_each-failed.new.processors in
    let same : take c.self.inside.processors.len (now ++ drop (length now) c.self.inside.processors.items) ≡ now = grind (arith, common_steps) in
    let follows : EachFollows calls [] c.args.self.now.processors now = EachFollows-asked calls (RunsProcessor calls g.P.Timed c.args.now.0) (λ p r q asked. asked.told) c.args.self.now.processors now c.run_each-failed.result (search rules) in
    subst (λ (ps : List g.row.P.Denot). EachFollows calls [] c.args.self.now.processors ps) (sym same) follows
