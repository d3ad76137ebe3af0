-- Neither `ok` stands there nor `error`.
use Rattle.std.proofs.Common.{◌≡◌, ◌≢◌, codes, rules}
use Rattle.opentelemetry.specs.Plain.{error}
use Rattle.otel_trace_lines.proofs.FieldLemmas.{no_status, error_is_field, same_field}
use Rattle.otel_trace_lines.proofs.fields.read_status.Goals as goal

pub returns-in_default-clause-found : goal.returns-in_default-clause-found
returns-in_default-clause-found c =
    let not_ok : c.args.text.now ≢ codes "ok" = search rules in
    no_status c.args.text.now not_ok (λ description h. c.in_default.ensures (codes "error") description error_is_field h)

pub returns-then-ne-clause-found : goal.returns-then-ne-clause-found
returns-then-ne-clause-found c =
    let not_ok : c.args.text.now ≢ codes "ok" = search rules in
    let not_error : c.in-Some.word.now ≢ codes "error" = search rules in
    let here = c.in-Some.ensures in
    no_status c.args.text.now not_ok (λ description h.
    not_error (same_field c.args.text.now c.in-Some.word.now c.in-Some.description.now (codes "error") description here.0 error_is_field here.1 h).0)

-- where its text finds no memory, a description stands there
pub returns-in_err-from_str-clause-free : goal.returns-in_err-from_str-clause-free
returns-in_err-from_str-clause-free c =
    let word : c.in-Some.word.now ≡ codes "error" = search rules in
    let here = c.in-Some.ensures in
    λ none. absurd (none (error c.in-Some.description.now, rw word at here.1))
