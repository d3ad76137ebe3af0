-- Where its text finds no memory, a field stands there.
use Rattle.std.proofs.Common.{refl, rules}
use Rattle.otel_trace_lines.specs.Commands.{forget}
use Rattle.otel_trace_lines.specs.Lines.{IsField}
use Rattle.otel_trace_lines.proofs.extended.forget_of.Goals as goal

pub returns-in_err-from_str-clause-free : goal.returns-in_err-from_str-clause-free
returns-in_err-from_str-clause-free c =
    let is : IsField c.args.field.now = search rules in
    λ none. absurd (none (forget c.args.field.now, (refl, (is, refl))))
