-- There are no fields, or neither a moment after them nor one with an attribute.
use Rattle.std.proofs.Common.{ℕ, List, true, codes, refl, sym}
use Rattle.otel_trace_lines.specs.Commands.{event, event_with}
use Rattle.otel_trace_lines.specs.Dialects.{MayHave}
use Rattle.otel_trace_lines.specs.declared.dialect.Dialect.{Dialect}
use Rattle.otel_trace_lines.specs.Lines.{IsOfForm, field, instant, rest_of_line, time}
use Rattle.otel_trace_lines.specs.Found.{AreFieldsIn}
use Rattle.otel_trace_lines.proofs.FieldLemmas.{only_event, ends_as, ends_with, one_rest}
use Rattle.otel_trace_lines.proofs.Numerals.{none_found}
use Rattle.otel_trace_lines.proofs.lines.event_of.Goals as goal

pub returns-in_default-clause-found : goal.returns-in_default-clause-found
returns-in_default-clause-found c = only_event c.args.dialect c.args.fields.now
    (λ span name moment h. let parts = ends_as c.args.fields.now span name (time moment) h in c.in_default.ensures (span, name, parts.0) parts.1)
    (λ span name moment key value h may. let parts = ends_as c.args.fields.now span name (instant moment (field key (rest_of_line value))) h in c.in_default.ensures (span, name, parts.0) parts.1)

pub returns-in_default-moment_and_attribute-clause-found : goal.returns-in_default-moment_and_attribute-clause-found
returns-in_default-moment_and_attribute-clause-found c = only_event c.args.dialect c.args.fields.now
    (λ span name moment h.
    let parts = ends_as c.args.fields.now span name (time moment) h in
    let same = one_rest c.args.fields.now c.in-Some.span.now c.in-Some.name.now c.in-Some.rest.now span name parts.0 c.in-Some.ensures parts.1 in
    none_found c.in_default-moment_of.ensures moment (rw (← same) parts.2))
    (λ span name moment key value h may.
    let parts = ends_as c.args.fields.now span name (instant moment (field key (rest_of_line value))) h in
    let same = one_rest c.args.fields.now c.in-Some.span.now c.in-Some.name.now c.in-Some.rest.now span name parts.0 c.in-Some.ensures parts.1 in
    c.in_default-moment_and_attribute.ensures (moment, key, value) (rw (← same) parts.2, may))

-- where a text of it finds no memory, an event stands there
event_there : (dialect : Dialect) (fields span name rest : List ℕ) (moment : ℕ) → IsOfForm fields (field span (field name (rest_of_line rest))) → IsOfForm rest (time moment) → AreFieldsIn dialect (codes "event") fields
event_there dialect fields span name rest moment h is = (event span name moment, (refl, ends_with fields span name rest (time moment) h is), tt)

pub returns-in_err-from_str-clause-free : goal.returns-in_err-from_str-clause-free
returns-in_err-from_str-clause-free c =
    λ none. absurd (none (event_there c.args.dialect c.args.fields.now c.in-Some.span.now c.in-Some.name.now c.in-Some.rest.now c.in-Some-moment_of.moment.0 c.in-Some.ensures (sym c.in-Some-moment_of.ensures)))

pub returns-in_err-from_str-2-clause-free : goal.returns-in_err-from_str-2-clause-free
returns-in_err-from_str-2-clause-free c =
    λ none. absurd (none (event_there c.args.dialect c.args.fields.now c.in-Some.span.now c.in-Some.name.now c.in-Some.rest.now c.in-Some-moment_of.moment.0 c.in-Some.ensures (sym c.in-Some-moment_of.ensures)))

-- or one with an attribute
attribute_there : (dialect : Dialect) (fields span name rest : List ℕ) (moment : ℕ) (key value : List ℕ) → IsOfForm fields (field span (field name (rest_of_line rest)))
    → IsOfForm rest (instant moment (field key (rest_of_line value))) → MayHave dialect true → AreFieldsIn dialect (codes "event") fields
attribute_there dialect fields span name rest moment key value h is may =
    (event_with span name moment key value, (refl, ends_with fields span name rest (instant moment (field key (rest_of_line value))) h is), may)

pub returns-in_err-from_str-3-clause-free : goal.returns-in_err-from_str-3-clause-free
returns-in_err-from_str-3-clause-free c =
    let found = c.in-Some-moment_and_attribute in
    λ none. absurd (none (attribute_there c.args.dialect c.args.fields.now c.in-Some.span.now c.in-Some.name.now c.in-Some.rest.now found.moment.0 found.key.now found.value.now c.in-Some.ensures found.ensures.0 found.ensures.1))

pub returns-in_err-from_str-4-clause-free : goal.returns-in_err-from_str-4-clause-free
returns-in_err-from_str-4-clause-free c =
    let found = c.in-Some-moment_and_attribute in
    λ none. absurd (none (attribute_there c.args.dialect c.args.fields.now c.in-Some.span.now c.in-Some.name.now c.in-Some.rest.now found.moment.0 found.key.now found.value.now c.in-Some.ensures found.ensures.0 found.ensures.1))

pub returns-in_err-from_str-5-clause-free : goal.returns-in_err-from_str-5-clause-free
returns-in_err-from_str-5-clause-free c =
    let found = c.in-Some-moment_and_attribute in
    λ none. absurd (none (attribute_there c.args.dialect c.args.fields.now c.in-Some.span.now c.in-Some.name.now c.in-Some.rest.now found.moment.0 found.key.now found.value.now c.in-Some.ensures found.ensures.0 found.ensures.1))

pub returns-in_err-from_str-6-clause-free : goal.returns-in_err-from_str-6-clause-free
returns-in_err-from_str-6-clause-free c =
    let found = c.in-Some-moment_and_attribute in
    λ none. absurd (none (attribute_there c.args.dialect c.args.fields.now c.in-Some.span.now c.in-Some.name.now c.in-Some.rest.now found.moment.0 found.key.now found.value.now c.in-Some.ensures found.ensures.0 found.ensures.1))
