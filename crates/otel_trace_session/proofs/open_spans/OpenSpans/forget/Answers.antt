use Rattle.std.proofs.Common.{◌≡◌, ◌∙◌, ◌++◌, ◌||◌, Bool, ap, false, is_some, subst, sym, true}
use Rattle.otel_trace_lines.specs.declared.reply.Answer.{Answer}
use Rattle.otel_trace_lines.specs.declared.reply.Answer.TheVariants as answers
use Rattle.otel_trace_session.specs.OpenSpans.{NamedSpans, by_name, finished_by_name, held_spans, named, records}
use Rattle.otel_trace_session.proofs.ForgetLemmas.{Forgets, forgets_none, forgets_one, given_up}
use Rattle.otel_trace_session.proofs.HeldLemmas.{drops_both, is_in_either, records_before, records_nowhere}
use Rattle.otel_trace_session.proofs.NamedLemmas.{drops_history}
use Rattle.otel_trace_session.proofs.open_spans.OpenSpans.forget.Goals as goal

pub returns-then-has_recording : goal.returns-then-has_recording
returns-then-has_recording c =
    let running = c.self.inside.running in
    let finished = c.self.inside.finished in
    let span = c.args.span.now in
    let is : records (named (by_name running.entries) span) ≡ true = sym c.has_recording.ensures ∙ c.if-has_recording.true in
    subst (λ (spans : NamedSpans). Forgets spans span answers.StillOpen spans) c.self.view_is
    (forgets_none (held_spans running.entries finished.entries) span (records_before (by_name running.entries) (finished_by_name finished.entries) span is))

pub returns : goal.returns
returns c =
    let running = c.self.inside.running in
    let finished = c.self.inside.finished in
    let span = c.args.span.now in
    let old = held_spans running.entries finished.entries in
    let first = by_name c.abandon_one-was_open.new.running.entries in
    let more = finished_by_name c.drop_identity-was_over.new.finished.entries in
    let none : records (named (by_name running.entries) span) ≡ false = sym c.has_recording.ensures ∙ c.if-has_recording.false in
    let is = records_nowhere (by_name running.entries) finished span none in
    let gone = drops_both (by_name running.entries) first (finished_by_name finished.entries) more span c.abandon_one-was_open.ensures.gone c.drop_identity-was_over.ensures.gone in
    let was : (c.abandon_one-was_open.result || c.drop_identity-was_over.result) ≡ is_some (named old span) =
    ap (λ (b : Bool). b || c.drop_identity-was_over.result) c.abandon_one-was_open.ensures.was ∙ ap (λ (b : Bool). is_some (named (by_name running.entries) span) || b) c.drop_identity-was_over.ensures.was
    ∙ is_in_either (by_name running.entries) (finished_by_name finished.entries) span in
    subst (λ (spans : NamedSpans). Forgets spans span c.answer_to_forget.result (first ++ more)) c.self.view_is
    (subst (λ (answer : Answer). Forgets old span answer (first ++ more)) (sym (c.answer_to_forget.ensures ∙ ap given_up was))
    (forgets_one old (first ++ more) span is gone))

pub invariant_of-self : goal.invariant_of-self
invariant_of-self c =
    let running = c.self.inside.running in
    let finished = c.self.inside.finished in
    let first = by_name c.abandon_one-was_open.new.running.entries in
    let more = finished_by_name c.drop_identity-was_over.new.finished.entries in
    drops_history (held_spans running.entries finished.entries) (first ++ more) c.args.span.now c.self.invariant
    (drops_both (by_name running.entries) first (finished_by_name finished.entries) more c.args.span.now c.abandon_one-was_open.ensures.gone c.drop_identity-was_over.ensures.gone)
