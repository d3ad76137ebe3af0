use Rattle.std.proofs.Common.{◌≡◌, true, false}
use Rattle.otel_embed.proofs.pipeline_of.PipelineOf.end.Goals as goal

pub returns-in_err-refused-clause-free : goal.returns-in_err-refused-clause-free
returns-in_err-refused-clause-free g c = rw (← c.self.view_is) (λ needs. absurd
    (let no : false ≡ true = c.in_err-refused.ensures.free needs.0 needs.1 needs.2 in cc))
