-- After the first field there is no status.
use Rattle.std.proofs.Common.{refl}
use Rattle.otel_trace_lines.specs.Commands.{status}
use Rattle.opentelemetry.specs.PlainValues.{plain_status}
use Rattle.opentelemetry.proofs.Clauses.{fails_on_err}
use Rattle.otel_trace_lines.specs.Lines.{IsStatus, outcome}
use Rattle.opentelemetry.specs.Plain.{PlainStatus}
use Rattle.otel_trace_lines.proofs.FieldLemmas.{after_field, only_status}
use Rattle.otel_trace_lines.proofs.lines.status_of.Goals as goal

pub returns-in_default-2-clause-found : goal.returns-in_default-2-clause-found
returns-in_default-2-clause-found c =
    let here = c.in-Some.ensures in
    let none : (how : PlainStatus) → IsStatus c.in-Some.rest.now how → ⊥ = rw c.in_default-2.is at c.in_ok-status.ensures.found in
    only_status c.args.fields.now (λ span how h.
    none how (after_field c.args.fields.now c.in-Some.span.now c.in-Some.rest.now here.0 here.1 span (outcome how) h))

-- where a text of it finds no memory, a status stands there
pub returns-in_err-status-clause-free : goal.returns-in_err-status-clause-free
returns-in_err-status-clause-free c =
    let here = c.in-Some.ensures in
    λ none. absurd (fails_on_err c.in_err-status.ensures.free (λ how. none (status c.in-Some.span.now how.0, (refl, (here.0, (c.in-Some.rest.now, here.1, how.1))))))

pub returns-in_err-from_str-clause-free : goal.returns-in_err-from_str-clause-free
returns-in_err-from_str-clause-free c =
    let here = c.in-Some.ensures in
    let how : IsStatus c.in-Some.rest.now (plain_status c.in-Some-2.status) = rw c.in-Some-2.is at c.in_ok-status.ensures.found in
    λ none. absurd (none (status c.in-Some.span.now (plain_status c.in-Some-2.status), (refl, (here.0, (c.in-Some.rest.now, here.1, how)))))
