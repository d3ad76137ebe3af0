-- No end stands there.
use Rattle.std.proofs.Common.{refl}
use Rattle.otel_trace_lines.specs.Commands.{end}
use Rattle.otel_trace_lines.proofs.FieldLemmas.{only_end}
use Rattle.otel_trace_lines.proofs.lines.end_of.Goals as goal

pub returns-in_default-clause-found : goal.returns-in_default-clause-found
returns-in_default-clause-found c = only_end c.args.fields.now (λ span moment. c.in_default.ensures (span, moment))

-- where its text finds no memory, an end stands there
pub returns-in_err-from_str-clause-free : goal.returns-in_err-from_str-clause-free
returns-in_err-from_str-clause-free c = λ none. absurd (none (end c.in-Some.span.now c.in-Some.moment.0, (refl, c.in-Some.ensures)))
