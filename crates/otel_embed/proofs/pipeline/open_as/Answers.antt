use Rattle.otel_embed.proofs.Opening.{opened_over}
use Rattle.otel_embed.proofs.pipeline.open_as.Goals as goal

pub returns : goal.returns
returns c = opened_over _ c.args.settings.now c.args.strings.now c.processor_kind.result c.max_undrained_spans-max_spans.result _ c.args.seed _
    c.processor_kind.ensures c.max_undrained_spans-max_spans.ensures c.with_max_spans.ensures.kept c.in_ok-inside.ensures
