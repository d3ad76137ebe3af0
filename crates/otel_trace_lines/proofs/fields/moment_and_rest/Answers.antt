-- The first field is no moment, or there is none.
use Rattle.otel_trace_lines.proofs.FieldLemmas.{same_field}
use Rattle.otel_trace_lines.proofs.Numerals.{none_found}
use Rattle.otel_trace_lines.proofs.fields.moment_and_rest.Goals as goal

pub returns-in_err-digits : goal.returns-in_err-digits
returns-in_err-digits c = rw c.from_residual.ensures (λ parts h. c.in_err-digits.ensures h.0 h.3.0 h.1 h.3.1)

pub returns-in_err-moment : goal.returns-in_err-moment
returns-in_err-moment c =
    let here = c.in_ok-digits.ensures in
    rw c.from_residual-in_err-moment.ensures (λ parts h.
    let same = same_field c.args.text.now c.in_ok-digits.digits.now c.in_ok-digits.rest.now h.0 h.3.0 here.0 h.1 here.1 h.3.1 in
    none_found c.in_err-moment.ensures parts.0 (rw same.0 h.2))
