use Rattle.otel_embed.proofs.SettingHeaders.{sets_both}
use Rattle.otel_embed.proofs.headers.inject.Goals as goal

pub returns : goal.returns
returns g c = sets_both c.args.cx.now (g.I.Injector.texts c.args.headers.now) (g.I.Injector.texts c.inject_context.new.injector) (g.I.Injector.texts c.inject_context-2.new.injector)
    c.inject_context-2.result c.in_ok-inject_context.ensures.injects c.inject_context-2.ensures
