use Rattle.std.proofs.Common.{◌∙◌, Bool, ap, if◌then◌else◌, sym}
use Rattle.otel_trace_lines.specs.declared.reply.Answer.TheVariants as answers
use Rattle.otel_trace_session.proofs.HeldLemmas.{is_kept}
use Rattle.otel_trace_session.proofs.span_answers.answer_to_late.Goals as goal

pub returns-then-contains_key : goal.returns-then-contains_key
returns-then-contains_key c = ap (λ (b : Bool). if b then answers.Ignored else answers.NoSuchSpan) (c.if-contains_key.ensures ∙ sym (is_kept c.args.finished.now c.args.span.now))

pub returns-else-contains_key : goal.returns-else-contains_key
returns-else-contains_key c = ap (λ (b : Bool). if b then answers.Ignored else answers.NoSuchSpan) (c.if-contains_key.ensures ∙ sym (is_kept c.args.finished.now c.args.span.now))
