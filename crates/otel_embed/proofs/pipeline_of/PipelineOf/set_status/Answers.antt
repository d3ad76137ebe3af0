use Rattle.opentelemetry.specs.PlainValues.{plain_status}
use Rattle.otel_embed.specs.Keys.{span_at}
use Rattle.otel_embed.proofs.Needing.{found_there, status_needs_none}
use Rattle.otel_embed.proofs.pipeline_of.PipelineOf.set_status.Goals as goal

pub returns-clause-free : goal.returns-clause-free
returns-clause-free g c = λ few some.
    let found = found_there (span_at c.args.self.now.spans c.args.span) some in
    c.change.ensures.free found.0 found.1 (status_needs_none found.0.span.limits
    (plain_status c.in_ok-status.status) found.0.span.recorded)
