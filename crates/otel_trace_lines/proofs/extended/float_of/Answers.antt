-- There are no two fields, or no float after them.
use Rattle.std.proofs.Common.{refl, sym}
use Rattle.otel_trace_lines.specs.Commands.{set_float}
use Rattle.otel_trace_lines.specs.Lines.{float}
use Rattle.otel_trace_lines.proofs.FieldLemmas.{only_float, ends_as, ends_with, one_rest}
use Rattle.otel_trace_lines.proofs.Numerals.{none_found}
use Rattle.otel_trace_lines.proofs.extended.float_of.Goals as goal

pub returns-in_default-clause-found : goal.returns-in_default-clause-found
returns-in_default-clause-found c = only_float c.args.fields.now (λ span key value h.
    let parts = ends_as c.args.fields.now span key (float value) h in
    c.in_default.ensures (span, key, parts.0) parts.1)

pub returns-in_default-parse_float-clause-found : goal.returns-in_default-parse_float-clause-found
returns-in_default-parse_float-clause-found c = only_float c.args.fields.now (λ span key value h.
    let parts = ends_as c.args.fields.now span key (float value) h in
    let same = one_rest c.args.fields.now c.in-Some.span.now c.in-Some.key.now c.in-Some.number.now span key parts.0 c.in-Some.ensures parts.1 in
    none_found c.in_default-parse_float.ensures value (rw (← same) parts.2))

-- where a text of it finds no memory, such an attribute stands there
pub returns-in_err-from_str-clause-free : goal.returns-in_err-from_str-clause-free
returns-in_err-from_str-clause-free c =
    let there = ends_with c.args.fields.now c.in-Some.span.now c.in-Some.key.now c.in-Some.number.now (float c.in-Some-parse_float.value) c.in-Some.ensures (sym c.in-Some-parse_float.ensures) in
    λ none. absurd (none (set_float c.in-Some.span.now c.in-Some.key.now c.in-Some-parse_float.value, (refl, there)))

pub returns-in_err-from_str-2-clause-free : goal.returns-in_err-from_str-2-clause-free
returns-in_err-from_str-2-clause-free c =
    let there = ends_with c.args.fields.now c.in-Some.span.now c.in-Some.key.now c.in-Some.number.now (float c.in-Some-parse_float.value) c.in-Some.ensures (sym c.in-Some-parse_float.ensures) in
    λ none. absurd (none (set_float c.in-Some.span.now c.in-Some.key.now c.in-Some-parse_float.value, (refl, there)))
