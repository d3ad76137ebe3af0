-- Where its text finds no memory, a field stands there.
use Rattle.std.proofs.Common.{refl, rules}
use Rattle.otel_trace_lines.specs.Commands.{inject}
use Rattle.otel_trace_lines.specs.Lines.{IsField}
use Rattle.otel_trace_lines.proofs.lines.inject_of.Goals as goal

pub returns-in_err-from_str-clause-free : goal.returns-in_err-from_str-clause-free
returns-in_err-from_str-clause-free c =
    let is : IsField c.args.field.now = search rules in
    λ none. absurd (none (inject c.args.field.now, (refl, (is, refl))))
