-- The message after its length, and then the key.
use Rattle.otel_protobuf.proofs.Taking.{one_field}
use Rattle.otel_protobuf.specs.Wire.{fields_of, message}
use Rattle.otel_otlp_protobuf.proofs.message.nested.Goals as goal

pub returns : goal.returns
returns g c =
    one_field c.args.number (message (fields_of (g.M.Message.fields c.args.message.now))) c.sized_key.ensures
    c.after_length.ensures
