use Rattle.std.proofs.Common.{length}
use Rattle.otel_propagators.proofs.JaegerLemmas.{above_zero, number_read}
use Rattle.otel_propagators.proofs.jaeger.read.read_number.Goals as goal

pub returns : goal.returns
returns c =
    number_read c.args.most c.args.text.now c.number_from_hex.result (above_zero (length c.args.text.now) c.if-count-eq0.false) c.if-count-most.false c.number_from_hex.ensures.value
    c.number_from_hex.ensures.only.1
