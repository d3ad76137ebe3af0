-- Neither a moment alone stands there, nor one with a kind after it.
use Rattle.std.proofs.Common.{subst}
use Rattle.std.specs.Option.{is_some}
use Rattle.otel_trace_lines.specs.Dialects.{MayHave}
use Rattle.otel_trace_lines.specs.declared.dialect.Dialect.{Dialect}
use Rattle.otel_trace_lines.proofs.KindLemmas.{no_kind, no_moment, plain_has_none}
use Rattle.otel_trace_lines.proofs.Numerals.{none_found}
use Rattle.otel_trace_lines.proofs.fields.moment_and_kind.Goals as goal

pub returns-in_err-moment_of : goal.returns-in_err-moment_of
returns-in_err-moment_of c =
    rw c.from_residual.ensures (λ parts h. no_moment c.args.dialect c.args.text.now (λ moment rest. c.in_default.ensures (moment, rest)) (none_found c.in_err-moment_of.ensures) parts.0 parts.1 h.0 h.1)

pub returns-in_err-kind_of-in-Extended : goal.returns-in_err-kind_of-in-Extended
returns-in_err-kind_of-in-Extended c =
    rw c.from_residual-in_err-kind_of-in-Extended.ensures (λ parts h. no_kind c.args.dialect c.args.text.now c.in-Some.moment.0 c.in-Some.word.now c.in-Some.ensures (none_found c.in_err-kind_of-in-Extended.ensures) parts.0 parts.1 h.0 h.1)

pub returns-in-Plain : goal.returns-in-Plain
returns-in-Plain c = λ parts h.
    plain_has_none c.args.text.now c.in-Some.moment.0 c.in-Some.word.now c.in-Some.ensures parts.0 parts.1 h.0
    (subst (λ (d : Dialect). MayHave d (is_some parts.1)) c.in-Plain.is h.1)
