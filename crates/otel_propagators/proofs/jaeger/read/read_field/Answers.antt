use Rattle.otel_propagators.proofs.JaegerLemmas.{not_a_field, number_digits}
use Rattle.otel_propagators.proofs.jaeger.read.read_field.Goals as goal

pub returns-in_err-front : goal.returns-in_err-front
returns-in_err-front c =
    rw c.from_residual.ensures (λ number rest is. absurd (c.in_err-front.ensures.only is.field rest (number_digits c.args.most number is.field is.says) is.spelled))

pub returns-in_err-read_number : goal.returns-in_err-read_number
returns-in_err-read_number c = rw c.from_residual-in_err-read_number.ensures (λ number rest is.
    not_a_field c.args.escaped c.args.most c.args.text.now c.in_ok-front.front.now c.in_ok-front.rest.now number rest (λ f r digits same. c.in_ok-front.ensures.only f r digits same)
    c.in_err-read_number.ensures is)
