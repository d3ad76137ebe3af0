-- One token after another.
use Rattle.otel_otlp.proofs.Adding.{and_then}
use Rattle.otel_otlp.proofs.tokens.RequestWriter.float_value.Goals as goal

pub returns : goal.returns
returns c =
    and_then c.in_ok-begin_object.ensures
    (and_then c.in_ok-key.ensures (and_then c.in_ok-float.ensures c.end_object.ensures))
