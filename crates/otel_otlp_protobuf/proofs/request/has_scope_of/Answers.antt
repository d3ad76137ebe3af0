-- Two scopes are one where they look the same.
use Rattle.opentelemetry.specs.SameParts.{same_scope_decides}
use Rattle.otel_otlp_protobuf.proofs.request.has_scope_of.Goals as goal

pub returns : goal.returns
returns c =
    rw (← c.span.view_is, ← c.other.view_is, c.eq.ensures)
    (same_scope_decides c.span.inside.instrumentation_scope c.other.inside.instrumentation_scope)
