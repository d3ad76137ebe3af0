-- There are no fields, or no moment and kind after them.
use Rattle.std.proofs.Common.{refl}
use Rattle.otel_trace_lines.specs.Commands.{remote}
use Rattle.otel_trace_lines.specs.Lines.{start_form}
use Rattle.otel_trace_lines.proofs.FieldLemmas.{only_remote, ends_as_three, ends_with_three, one_rest_of_three}
use Rattle.otel_trace_lines.proofs.lines.remote_of.Goals as goal

pub returns-in_default-clause-found : goal.returns-in_default-clause-found
returns-in_default-clause-found c = only_remote c.args.dialect c.args.fields.now (λ span traceparent name moment kind h may.
    let parts = ends_as_three c.args.fields.now span traceparent name (start_form moment kind) h in
    c.in_default.ensures (span, traceparent, name, parts.0) parts.1)

pub returns-in_default-moment_and_kind-clause-found : goal.returns-in_default-moment_and_kind-clause-found
returns-in_default-moment_and_kind-clause-found c = only_remote c.args.dialect c.args.fields.now (λ span traceparent name moment kind h may.
    let parts = ends_as_three c.args.fields.now span traceparent name (start_form moment kind) h in
    let same = one_rest_of_three c.args.fields.now c.in-Some.span.now c.in-Some.traceparent.now c.in-Some.name.now c.in-Some.rest.now span traceparent name parts.0 c.in-Some.ensures parts.1 in
    c.in_default-moment_and_kind.ensures (moment, kind) (rw (← same) parts.2, may))

-- where a text of it finds no memory, such a start stands there
pub returns-in_err-from_str-clause-free : goal.returns-in_err-from_str-clause-free
returns-in_err-from_str-clause-free c =
    let found = c.in-Some-moment_and_kind in
    let there = ends_with_three c.args.fields.now c.in-Some.span.now c.in-Some.traceparent.now c.in-Some.name.now c.in-Some.rest.now (start_form found.moment.0 found.kind) c.in-Some.ensures found.ensures.0 in
    λ none. absurd (none (remote c.in-Some.span.now c.in-Some.traceparent.now c.in-Some.name.now found.moment.0 found.kind, (refl, there), found.ensures.1))

pub returns-in_err-from_str-2-clause-free : goal.returns-in_err-from_str-2-clause-free
returns-in_err-from_str-2-clause-free c =
    let found = c.in-Some-moment_and_kind in
    let there = ends_with_three c.args.fields.now c.in-Some.span.now c.in-Some.traceparent.now c.in-Some.name.now c.in-Some.rest.now (start_form found.moment.0 found.kind) c.in-Some.ensures found.ensures.0 in
    λ none. absurd (none (remote c.in-Some.span.now c.in-Some.traceparent.now c.in-Some.name.now found.moment.0 found.kind, (refl, there), found.ensures.1))

pub returns-in_err-from_str-3-clause-free : goal.returns-in_err-from_str-3-clause-free
returns-in_err-from_str-3-clause-free c =
    let found = c.in-Some-moment_and_kind in
    let there = ends_with_three c.args.fields.now c.in-Some.span.now c.in-Some.traceparent.now c.in-Some.name.now c.in-Some.rest.now (start_form found.moment.0 found.kind) c.in-Some.ensures found.ensures.0 in
    λ none. absurd (none (remote c.in-Some.span.now c.in-Some.traceparent.now c.in-Some.name.now found.moment.0 found.kind, (refl, there), found.ensures.1))
