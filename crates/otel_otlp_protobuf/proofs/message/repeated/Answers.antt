-- One message more.
use Rattle.std.proofs.Common.{◌∙◌, ap, sym}
use Rattle.otel_otlp_protobuf.proofs.Steps.{none_left}
use Rattle.otel_protobuf.proofs.Taking.{and_fields, as_fields, last_message, nothing}
use Rattle.otel_protobuf.specs.Wire.{nested, repeated}
use Rattle.otel_otlp_protobuf.proofs.message.repeated.Goals as goal

pub loop-message-preserved : goal.loop-message-preserved
loop-message-preserved g c =
    λ new h.
    let number = c.args.number in
    let fields = g.M.Message.fields in
    let message = c.in-Some.message.now in
    let before = c.in-Some.before.now in
    c.loop-message.invariant new
    (as_fields (last_message number fields before message ∙ ap (repeated number fields) (sym c.in-Some.ensures.cases.0))
    (and_fields (repeated number fields before) (nested number (fields message)) h c.nested.ensures))

pub returns : goal.returns
returns g c =
    c.loop-message.invariant c.loop-message.sink
    (as_fields (ap (repeated c.args.number g.M.Message.fields)
    (none_left c.loop-message.rest.now c.in_default.ensures.cases)) (nothing c.loop-message.sink))
