-- There are no fields, or no moment and kind after them.
use Rattle.std.proofs.Common.{refl}
use Rattle.otel_trace_lines.specs.Commands.{start}
use Rattle.otel_trace_lines.specs.Lines.{start_form}
use Rattle.otel_trace_lines.proofs.FieldLemmas.{only_start, ends_as, ends_with, one_rest}
use Rattle.otel_trace_lines.proofs.lines.start_of.Goals as goal

pub returns-in_default-clause-found : goal.returns-in_default-clause-found
returns-in_default-clause-found c = only_start c.args.dialect c.args.fields.now (λ span name moment kind h may.
    let parts = ends_as c.args.fields.now span name (start_form moment kind) h in
    c.in_default.ensures (span, name, parts.0) parts.1)

pub returns-in_default-moment_and_kind-clause-found : goal.returns-in_default-moment_and_kind-clause-found
returns-in_default-moment_and_kind-clause-found c = only_start c.args.dialect c.args.fields.now (λ span name moment kind h may.
    let parts = ends_as c.args.fields.now span name (start_form moment kind) h in
    let same = one_rest c.args.fields.now c.in-Some.span.now c.in-Some.name.now c.in-Some.rest.now span name parts.0 c.in-Some.ensures parts.1 in
    c.in_default-moment_and_kind.ensures (moment, kind) (rw (← same) parts.2, may))

-- where a text of it finds no memory, such a start stands there
pub returns-in_err-from_str-clause-free : goal.returns-in_err-from_str-clause-free
returns-in_err-from_str-clause-free c =
    let found = c.in-Some-moment_and_kind in
    let there = ends_with c.args.fields.now c.in-Some.span.now c.in-Some.name.now c.in-Some.rest.now (start_form found.moment.0 found.kind) c.in-Some.ensures found.ensures.0 in
    λ none. absurd (none (start c.in-Some.span.now c.in-Some.name.now found.moment.0 found.kind, (refl, there), found.ensures.1))

pub returns-in_err-from_str-2-clause-free : goal.returns-in_err-from_str-2-clause-free
returns-in_err-from_str-2-clause-free c =
    let found = c.in-Some-moment_and_kind in
    let there = ends_with c.args.fields.now c.in-Some.span.now c.in-Some.name.now c.in-Some.rest.now (start_form found.moment.0 found.kind) c.in-Some.ensures found.ensures.0 in
    λ none. absurd (none (start c.in-Some.span.now c.in-Some.name.now found.moment.0 found.kind, (refl, there), found.ensures.1))
