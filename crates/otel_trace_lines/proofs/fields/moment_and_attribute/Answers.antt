-- The plain grammar has no attribute there; and there is no moment, or no key after it.
use Rattle.std.proofs.Common.{◌∙◌, refl, sym}
use Rattle.otel_trace_lines.proofs.FieldLemmas.{same_field}
use Rattle.otel_trace_lines.proofs.fields.moment_and_attribute.Goals as goal

pub returns-in_err-moment-in-Extended : goal.returns-in_err-moment-in-Extended
returns-in_err-moment-in-Extended c =
    rw c.from_residual.ensures (λ parts h. c.in_err-moment-in-Extended.ensures (parts.0, h.0.3.0) (h.0.0, h.0.1, h.0.2, (h.0.3.0, h.0.3.1, refl)))

pub returns-in_err-key-in-Extended : goal.returns-in_err-key-in-Extended
returns-in_err-key-in-Extended c =
    let there = c.in_ok-moment-in-Extended.ensures in
    rw c.from_residual-in_err-key-in-Extended.ensures (λ parts h.
    let other = h.0 in
    let same = same_field c.args.text.now there.0 there.3.0 other.0 other.3.0 there.1 other.1 there.3.1 other.3.1 in
    c.in_err-key-in-Extended.ensures parts.1 other.3.2.1.0 other.3.2.0 (sym there.3.2 ∙ same.1 ∙ other.3.2.1.1))
