-- No two fields stand there.
use Rattle.std.proofs.Common.{refl, rules, subst, sym}
use Rattle.otel_trace_lines.specs.Commands.{link}
use Rattle.otel_trace_lines.specs.Lines.{IsField, last_field}
use Rattle.otel_trace_lines.proofs.FieldLemmas.{after_field, only_link}
use Rattle.otel_trace_lines.proofs.extended.link_of.Goals as goal

pub returns-then-not-is_field-clause-found : goal.returns-then-not-is_field-clause-found
returns-then-not-is_field-clause-found c =
    let here = c.in-Some.ensures in
    let none : ¬ (IsField c.in-Some.target.now) = search rules in
    only_link c.args.fields.now (λ span target h.
    let last = after_field c.args.fields.now c.in-Some.span.now c.in-Some.target.now here.0 here.1 span (last_field target) h in
    none (subst IsField (sym last.1) last.0))

-- where a text of it finds no memory, a link stands there
pub returns-in_err-from_str-clause-free : goal.returns-in_err-from_str-clause-free
returns-in_err-from_str-clause-free c =
    let here = c.in-Some.ensures in
    let is : IsField c.in-Some.target.now = search rules in
    λ none. absurd (none (link c.in-Some.span.now c.in-Some.target.now, (refl, (here.0, (c.in-Some.target.now, here.1, (is, refl))))))

pub returns-in_err-from_str-2-clause-free : goal.returns-in_err-from_str-2-clause-free
returns-in_err-from_str-2-clause-free c =
    let here = c.in-Some.ensures in
    let is : IsField c.in-Some.target.now = search rules in
    λ none. absurd (none (link c.in-Some.span.now c.in-Some.target.now, (refl, (here.0, (c.in-Some.target.now, here.1, (is, refl))))))
