-- After the field there is no moment.
use Rattle.otel_trace_lines.specs.Lines.{time}
use Rattle.otel_trace_lines.proofs.FieldLemmas.{after_field}
use Rattle.otel_trace_lines.proofs.Numerals.{none_found}
use Rattle.otel_trace_lines.proofs.fields.field_and_moment.Goals as goal

pub returns-in_err-moment : goal.returns-in_err-moment
returns-in_err-moment c =
    let here = c.in_ok-first.ensures in
    rw c.from_residual-in_err-moment.ensures (λ parts h.
    none_found c.in_err-moment.ensures parts.1 (after_field c.args.text.now c.in_ok-first.first.now c.in_ok-first.digits.now here.0 here.1 parts.0 (time parts.1) h))
