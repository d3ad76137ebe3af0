use Rattle.std.proofs.Common.{subst}
use Rattle.otel_sampling.specs.ConfigStrings.{PlainConfigStrings}
use Rattle.otel_resource.specs.DetectedResource.{IsDetected}
use Rattle.otel_sampling.proofs.trace.config.configured_resource.Goals as goal

pub returns : goal.returns
returns c =
    subst (λ (s : PlainConfigStrings). IsDetected s.resource c.build.result) c.strings.view_is
    (rw c.build.ensures c.in_ok-builder.ensures)
