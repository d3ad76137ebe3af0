use Rattle.std.proofs.Common.{◌≡◌, ◌++◌, List, [], length, take, drop, refl, sym, subst, rules, arith}
use Rattle.std.proofs.lemmas.Grind.{common_steps}
use Rattle.std.specs.Duration.{as_nanos}
use Rattle.otel_pipeline.specs.Deliveries.{EachFollows}
use Rattle.otel_pipeline.specs.Provider.{ShutsProcessor}
use Rattle.otel_pipeline.proofs.Following.{EachFollows-asked, EachFollows-same}
use Rattle.otel_pipeline.proofs.trace.provider.ProviderOf.shutdown_with_timeout.Goals as goal

pub returns-then-self-clause-told : goal.returns-then-self-clause-told
returns-then-self-clause-told g c = EachFollows-same g.P.SpanProcessor c.args.self.now.processors c.args.self.now.processors refl

pub returns-clause-told : goal.returns-clause-told
returns-clause-told g c =
    let calls = g.P.SpanProcessor in
    let now : List g.row.P.Denot = c.shutdown_each-failed.new.processors in
    let same : take c.self.inside.processors.len (now ++ drop (length now) c.self.inside.processors.items) ≡ now = grind (arith, common_steps) in
    let follows : EachFollows calls [] c.args.self.now.processors now = EachFollows-asked calls (ShutsProcessor calls (as_nanos c.args.timeout)) (λ p r q asked. asked.told) c.args.self.now.processors now c.shutdown_each-failed.result (search rules) in
    subst (λ (ps : List g.row.P.Denot). EachFollows calls [] c.args.self.now.processors ps) (sym same) follows
