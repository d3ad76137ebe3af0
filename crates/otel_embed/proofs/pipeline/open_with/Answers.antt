use Rattle.otel_embed.proofs.Opening.{opened_with}
use Rattle.otel_embed.proofs.pipeline.open_with.Goals as goal

pub returns : goal.returns
returns c = opened_with _ c.args.settings.now c.in_ok-strings.strings c.in_ok-named.named c.args.seed _ _
    c.in_ok-strings.ensures c.in_ok-named.ensures c.in_ok-inside.ensures c.in_ok-ignored.ensures
