-- The first space ends the first field, if that has bytes.
use Rattle.std.proofs.Common.{rules}
use Rattle.otel_trace_lines.proofs.Cuts.{no_field, no_empty_field}
use Rattle.otel_trace_lines.proofs.fields.first_field.Goals as goal

pub returns-in_err-field : goal.returns-in_err-field
returns-in_err-field c =
    let none = c.in_err-field.ensures in
    rw c.from_residual.ensures (λ field rest is_field e. no_field c.args.text.now field rest (λ i below. none i 0 below) e)

pub returns-then-is_empty : goal.returns-then-is_empty
returns-then-is_empty c =
    let parts = c.in_ok-field.ensures in
    let empty = c.if-is_empty.true in
    λ field after is_field e. no_empty_field c.args.text.now c.in_ok-field.field.now c.in_ok-field.rest.now field after parts.1 (search rules) is_field e
