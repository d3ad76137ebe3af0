-- There are no two fields, or no integer after them.
use Rattle.std.proofs.Common.{◌≡◌, refl, rules, string_bytes, sym}
use Rattle.std.specs.Prelude.{FitsSigned}
use Rattle.std.specs.Int.{w64}
use Rattle.std.proofs.lemmas.Int.{to_z-of_z}
use Rattle.otel_trace_lines.specs.Commands.{set_int}
use Rattle.otel_trace_lines.specs.Lines.{whole}
use Rattle.otel_trace_lines.proofs.FieldLemmas.{only_int, ends_as, ends_with, one_rest}
use Rattle.otel_trace_lines.proofs.Numerals.{none_found}
use Rattle.otel_trace_lines.proofs.extended.int_of.Goals as goal

pub returns-in_default-clause-found : goal.returns-in_default-clause-found
returns-in_default-clause-found c = only_int c.args.fields.now (λ span key value h.
    let parts = ends_as c.args.fields.now span key (whole value) h in
    c.in_default.ensures (span, key, parts.0) parts.1)

pub returns-in_default-parse_integer-clause-found : goal.returns-in_default-parse_integer-clause-found
returns-in_default-parse_integer-clause-found c = only_int c.args.fields.now (λ span key value h.
    let parts = ends_as c.args.fields.now span key (whole value) h in
    let same = one_rest c.args.fields.now c.in-Some.span.now c.in-Some.key.now c.in-Some.digits.now span key parts.0 c.in-Some.ensures parts.1 in
    none_found c.in_default-parse_integer.ensures value (rw (← same) parts.2))

-- where a text of it finds no memory, such an attribute stands there
pub returns-in_err-from_str-clause-free : goal.returns-in_err-from_str-clause-free
returns-in_err-from_str-clause-free c =
    let there = ends_with c.args.fields.now c.in-Some.span.now c.in-Some.key.now c.in-Some.digits.now (whole c.in-Some-parse_integer.value) c.in-Some.ensures (sym c.in-Some-parse_integer.ensures) in
    λ none. absurd (none (set_int c.in-Some.span.now c.in-Some.key.now c.in-Some-parse_integer.value, (refl, there)))

pub returns-in_err-from_str-2-clause-free : goal.returns-in_err-from_str-2-clause-free
returns-in_err-from_str-2-clause-free c =
    let there = ends_with c.args.fields.now c.in-Some.span.now c.in-Some.key.now c.in-Some.digits.now (whole c.in-Some-parse_integer.value) c.in-Some.ensures (sym c.in-Some-parse_integer.ensures) in
    λ none. absurd (none (set_int c.in-Some.span.now c.in-Some.key.now c.in-Some-parse_integer.value, (refl, there)))

pub returns-clause-found : goal.returns-clause-found
returns-clause-found c =
    let span : string_bytes c.in_ok-from_str.field-0 ≡ c.in-Some.span.now = search rules in
    let key : string_bytes c.in_ok-from_str-2.field-0 ≡ c.in-Some.key.now = search rules in
    let there = ends_with c.args.fields.now c.in-Some.span.now c.in-Some.key.now c.in-Some.digits.now (whole c.in-Some-parse_integer.value) c.in-Some.ensures (sym c.in-Some-parse_integer.ensures) in
    let fits : FitsSigned w64 c.in-Some-parse_integer.value = search rules in
    (refl, rw (span, key, to_z-of_z w64 c.in-Some-parse_integer.value fits) there)
