-- There are no two fields, or no moment and message after them.
use Rattle.std.proofs.Common.{refl}
use Rattle.otel_trace_lines.specs.Commands.{exception}
use Rattle.otel_trace_lines.specs.Lines.{instant, rest_of_line}
use Rattle.otel_trace_lines.proofs.FieldLemmas.{only_exception, ends_as, ends_with, one_rest}
use Rattle.otel_trace_lines.proofs.extended.exception_of.Goals as goal

pub returns-in_default-clause-found : goal.returns-in_default-clause-found
returns-in_default-clause-found c = only_exception c.args.fields.now (λ span kind moment message h.
    let parts = ends_as c.args.fields.now span kind (instant moment (rest_of_line message)) h in
    c.in_default.ensures (span, kind, parts.0) parts.1)

pub returns-in_default-moment_and_rest-clause-found : goal.returns-in_default-moment_and_rest-clause-found
returns-in_default-moment_and_rest-clause-found c = only_exception c.args.fields.now (λ span kind moment message h.
    let parts = ends_as c.args.fields.now span kind (instant moment (rest_of_line message)) h in
    let same = one_rest c.args.fields.now c.in-Some.span.now c.in-Some.exception_type.now c.in-Some.rest.now span kind parts.0 c.in-Some.ensures parts.1 in
    c.in_default-moment_and_rest.ensures (moment, message) (rw (← same) parts.2))

-- where a text of it finds no memory, an exception stands there
pub returns-in_err-from_str-clause-free : goal.returns-in_err-from_str-clause-free
returns-in_err-from_str-clause-free c =
    let moment = c.in-Some-moment_and_rest.moment.0 in
    let message = c.in-Some-moment_and_rest.message.now in
    let there = ends_with c.args.fields.now c.in-Some.span.now c.in-Some.exception_type.now c.in-Some.rest.now (instant moment (rest_of_line message)) c.in-Some.ensures c.in-Some-moment_and_rest.ensures in
    λ none. absurd (none (exception c.in-Some.span.now c.in-Some.exception_type.now moment message, (refl, there)))

pub returns-in_err-from_str-2-clause-free : goal.returns-in_err-from_str-2-clause-free
returns-in_err-from_str-2-clause-free c =
    let moment = c.in-Some-moment_and_rest.moment.0 in
    let message = c.in-Some-moment_and_rest.message.now in
    let there = ends_with c.args.fields.now c.in-Some.span.now c.in-Some.exception_type.now c.in-Some.rest.now (instant moment (rest_of_line message)) c.in-Some.ensures c.in-Some-moment_and_rest.ensures in
    λ none. absurd (none (exception c.in-Some.span.now c.in-Some.exception_type.now moment message, (refl, there)))

pub returns-in_err-from_str-3-clause-free : goal.returns-in_err-from_str-3-clause-free
returns-in_err-from_str-3-clause-free c =
    let moment = c.in-Some-moment_and_rest.moment.0 in
    let message = c.in-Some-moment_and_rest.message.now in
    let there = ends_with c.args.fields.now c.in-Some.span.now c.in-Some.exception_type.now c.in-Some.rest.now (instant moment (rest_of_line message)) c.in-Some.ensures c.in-Some-moment_and_rest.ensures in
    λ none. absurd (none (exception c.in-Some.span.now c.in-Some.exception_type.now moment message, (refl, there)))
