use Rattle.otel_embed.proofs.Opening.{opened_by}
use Rattle.otel_embed.proofs.pipeline.Pipeline.open.Goals as goal

pub returns-in-Ok-open_with-clause-opens : goal.returns-in-Ok-open_with-clause-opens
returns-in-Ok-open_with-clause-opens c = opened_by _ c.args.settings.now c.in-Ok.text.now c.in_ok-settings.settings c.args.seed _ _
    c.in-Ok.ensures.cases.0 c.in_ok-settings.ensures c.in-Ok-open_with.ensures
