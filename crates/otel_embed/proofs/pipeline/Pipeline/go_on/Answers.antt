use Rattle.std.proofs.Common.{refl, string_bytes}
use Rattle.otel_embed.proofs.pipeline.Pipeline.go_on.Goals as goal

pub returns-clause-ok : goal.returns-clause-ok
returns-clause-ok c = (
  record {
    fresh = c.in_ok-fresh.fresh;
    ignored = string_bytes c.in_ok-fresh._ignored;
    opens = c.in_ok-fresh.ensures;
    goes_on = c.go_on_as.ensures;
  },
  refl,
  refl,
)
