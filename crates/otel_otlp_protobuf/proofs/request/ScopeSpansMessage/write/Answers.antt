-- One member after another.
use Rattle.std.proofs.Common.{ap, refl}
use Rattle.otel_otlp.specs.Otlp.{or_empty}
use Rattle.otel_otlp_protobuf.proofs.Steps.{last, many_taken}
use Rattle.otel_otlp_protobuf.specs.NamedRequest.{scope_members}
use Rattle.otel_otlp_protobuf.specs.NamedSpan.{span_members}
use Rattle.otel_otlp_protobuf.specs.Said.{message_fields}
use Rattle.otel_protobuf.proofs.Taking.{and_fields, as_fields}
use Rattle.otel_protobuf.specs.Wire.{nested, unless_empty}
use Rattle.otel_otlp_protobuf.proofs.request.ScopeSpansMessage.write.Goals as goal

pub returns : goal.returns
returns c =
    let run = c.args.self.now in
    and_fields (nested 1 (message_fields (scope_members run.scope.now))) _ c.nested.ensures
    (and_fields _ _ (many_taken 2 span_members _ run.spans.now refl c.repeated.ensures)
    (last (unless_empty 3 (or_empty run.scope.now.schema_url))
    (as_fields (ap (λ text. unless_empty 3 (or_empty text)) c.schema_url.ensures) c.optional.ensures)))
