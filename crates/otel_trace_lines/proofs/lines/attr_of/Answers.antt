-- After the first field there is no second one.
use Rattle.otel_trace_lines.specs.Lines.{field, rest_of_line}
use Rattle.otel_trace_lines.proofs.FieldLemmas.{attr_there, after_field, only_attr}
use Rattle.otel_trace_lines.proofs.lines.attr_of.Goals as goal

pub returns-in_default-first_field-clause-found : goal.returns-in_default-first_field-clause-found
returns-in_default-first_field-clause-found c =
    let here = c.in-Some.ensures in
    only_attr c.args.fields.now (λ span key value h.
    let after = after_field c.args.fields.now c.in-Some.span.now c.in-Some.rest.now here.0 here.1 span (field key (rest_of_line value)) h in
    c.in_default-first_field.ensures key after.1.0 after.0 after.1.1)

-- where a text of it finds no memory, an attribute stands there
pub returns-in_err-from_str-clause-free : goal.returns-in_err-from_str-clause-free
returns-in_err-from_str-clause-free c = λ none. absurd (none (attr_there c.args.fields.now c.in-Some.span.now c.in-Some.rest.now c.in-Some-first_field.key.now c.in-Some-first_field.value.now c.in-Some.ensures c.in-Some-first_field.ensures))

pub returns-in_err-from_str-2-clause-free : goal.returns-in_err-from_str-2-clause-free
returns-in_err-from_str-2-clause-free c = λ none. absurd (none (attr_there c.args.fields.now c.in-Some.span.now c.in-Some.rest.now c.in-Some-first_field.key.now c.in-Some-first_field.value.now c.in-Some.ensures c.in-Some-first_field.ensures))

pub returns-in_err-from_str-3-clause-free : goal.returns-in_err-from_str-3-clause-free
returns-in_err-from_str-3-clause-free c = λ none. absurd (none (attr_there c.args.fields.now c.in-Some.span.now c.in-Some.rest.now c.in-Some-first_field.key.now c.in-Some-first_field.value.now c.in-Some.ensures c.in-Some-first_field.ensures))
