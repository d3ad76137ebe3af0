-- One member after another.
use Rattle.std.proofs.Common.{◌∙◌, ap}
use Rattle.otel_otlp.specs.Otlp.{or_empty}
use Rattle.otel_otlp_protobuf.proofs.Steps.{last, many_taken}
use Rattle.otel_otlp_protobuf.specs.NamedValues.{attribute_members}
use Rattle.otel_protobuf.proofs.Taking.{and_fields, as_fields}
use Rattle.otel_protobuf.specs.Wire.{unless_empty}
use Rattle.otel_otlp_protobuf.proofs.request.InstrumentationScopeMessage.write.Goals as goal

pub returns : goal.returns
returns c =
    let scope = c.args.self.now in
    and_fields (unless_empty 1 scope.name) _
    (as_fields (ap (unless_empty 1) (c.as_bytes.ensures.value ∙ c.name.ensures)) c.bytes.ensures)
    (and_fields (unless_empty 2 (or_empty scope.version)) _
    (as_fields (ap (λ text. unless_empty 2 (or_empty text)) c.version.ensures) c.optional.ensures)
    (last _ (many_taken 3 attribute_members _ scope.attributes c.attributes.ensures c.repeated.ensures)))
