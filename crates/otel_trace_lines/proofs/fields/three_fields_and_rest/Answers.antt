-- After the first field there are no two more and a rest.
use Rattle.otel_trace_lines.specs.Lines.{field, rest_of_line}
use Rattle.otel_trace_lines.proofs.FieldLemmas.{after_field}
use Rattle.otel_trace_lines.proofs.fields.three_fields_and_rest.Goals as goal

pub returns-in_err-second : goal.returns-in_err-second
returns-in_err-second c =
    let here = c.in_ok-first.ensures in
    rw c.from_residual-in_err-second.ensures (λ parts h.
    c.in_err-second.ensures (parts.1, parts.2, parts.3) (after_field c.args.text.now c.in_ok-first.first.now c.in_ok-first.after.now here.0 here.1 parts.0 (field parts.1 (field parts.2 (rest_of_line parts.3))) h))
