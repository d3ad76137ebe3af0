-- After a word with fixed fields.
use Rattle.opentelemetry.proofs.Clauses.{if_ok_map}
use Rattle.otel_trace_lines.proofs.FieldLemmas.{others_are, others_give}
use Rattle.otel_trace_lines.proofs.lines.command_with_fields.Goals as goal

pub returns-in_default-clause-found : goal.returns-in_default-clause-found
returns-in_default-clause-found c =
    if_ok_map c.other_with_fields.result (λ found h. others_give c.args.dialect c.args.word.now c.args.fields.now (c.in_default.not-start, c.in_default.not-child, c.in_default.not-remote, c.in_default.not-event) found h) c.other_with_fields.ensures.found

pub returns-in_default-clause-free : goal.returns-in_default-clause-free
returns-in_default-clause-free c = λ none. c.other_with_fields.ensures.free (λ there. none (others_are c.args.dialect c.args.word.now c.args.fields.now (c.in_default.not-start, c.in_default.not-child, c.in_default.not-remote, c.in_default.not-event) there))
