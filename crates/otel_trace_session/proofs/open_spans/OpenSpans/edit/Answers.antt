use Rattle.std.proofs.Common.{◌≡◌, ◌∙◌, ◌++◌, sym, ap, Some, None, rules, subst, OnErr, Bool, if◌then◌else◌}
use Rattle.std.specs.BTreeMap.{get_by_text}
use Rattle.otel_pipeline.specs.SpanEdits.{plain_edit}
use Rattle.otel_pipeline.specs.SpanHistory.{PlainSpan, edited}
use Rattle.otel_trace_lines.specs.declared.reply.Answer.TheVariants as answers
use Rattle.otel_trace_session.specs.OpenSpans.{NamedSpans, PutsSpan, SameSpans, by_name, held_spans, named, finished_by_name}
use Rattle.opentelemetry.proofs.Clauses.{always_on_err}
use Rattle.otel_trace_session.proofs.HeldLemmas.{absent_before, edits_late, edits_open, late, named-finished, puts_before, same_before, there_before}
use Rattle.otel_trace_session.proofs.NamedLemmas.{named-get, puts_span, put_same, same_entries, edited_has, puts_history, same_histories}
use Rattle.otel_trace_session.proofs.TurnLemmas.{Edits}
use Rattle.otel_trace_session.proofs.open_spans.OpenSpans.edit.Goals as goal

pub returns-clause-ok : goal.returns-clause-ok
returns-clause-ok c =
    let running = c.self.inside.running in
    let rest = finished_by_name c.self.inside.finished.entries in
    let new = c.get_mut.follows.lender c.edit-2.new.self in
    let there : named (by_name running.entries) c.args.span.now ≡ Some c.in-Some.found.now = named-get running c.args.span.now ∙ sym c.in-Some.ensures.value in
    let put = puts_span running new c.args.span.now c.edit-2.new.self ((c.get_mut.follows.holds c.edit-2.new.self).3 (search rules)) in
    let P : PlainSpan → Type 0 = λ v. PutsSpan (by_name running.entries) c.args.span.now v (by_name new.entries) in
    subst (λ (old : NamedSpans). Edits old c.args.span.now (plain_edit c.args.edit) c.answer_to_edit.result (by_name new.entries ++ rest)) c.self.view_is
    (edits_open (by_name running.entries) (by_name new.entries) rest c.args.span.now (plain_edit c.args.edit) c.in-Some.found.now c.answer_to_edit.result there
    (c.answer_to_edit.ensures ∙ ap (λ (b : Bool). if b then answers.Ok else answers.Ignored) c.is_recording-is_recording.ensures) (subst P c.in_ok-edit.ensures.ok put))

pub returns-in_default-clause-ok : goal.returns-in_default-clause-ok
returns-in_default-clause-ok c =
    let running = c.self.inside.running in
    let finished = c.self.inside.finished in
    let new = c.get_mut.follows.lender-at-none in
    let absent : named (by_name running.entries) c.args.span.now ≡ None = named-get running c.args.span.now ∙ sym c.in_default.ensures.value in
    let kept = named-finished finished c.args.span.now in
    subst (λ (old : NamedSpans). Edits old c.args.span.now (plain_edit c.args.edit) c.answer_to_late.result (by_name new.entries ++ finished_by_name finished.entries)) c.self.view_is
    (edits_late (held_spans running.entries finished.entries) (by_name new.entries ++ finished_by_name finished.entries) c.args.span.now (plain_edit c.args.edit) (get_by_text finished c.args.span.now) c.answer_to_late.result
    (absent_before (by_name running.entries) (finished_by_name finished.entries) c.args.span.now absent ∙ kept) (c.answer_to_late.ensures ∙ ap late kept)
    (same_before (by_name running.entries) (by_name new.entries) (finished_by_name finished.entries) (same_entries running.entries new.entries (ap (λ m. m.entries) c.get_mut.follows.holds-at-none))))

pub returns-in_err-edit-clause-err : goal.returns-in_err-edit-clause-err
returns-in_err-edit-clause-err c =
    let running = c.self.inside.running in
    let rest = finished_by_name c.self.inside.finished.entries in
    let new = c.get_mut.follows.lender c.edit-2.new.self in
    let there : named (by_name running.entries) c.args.span.now ≡ Some c.in-Some.found.now = named-get running c.args.span.now ∙ sym c.in-Some.ensures.value in
    let put = puts_span running new c.args.span.now c.edit-2.new.self ((c.get_mut.follows.holds c.edit-2.new.self).3 (search rules)) in
    let P : PlainSpan → Type 0 = λ v. PutsSpan (by_name running.entries) c.args.span.now v (by_name new.entries) in
    subst (λ (old : NamedSpans). OnErr c.from_residual.result (SameSpans old (by_name new.entries ++ rest))) c.self.view_is
    (always_on_err _ (same_before (by_name running.entries) (by_name new.entries) rest
    (put_same (by_name running.entries) (by_name new.entries) c.args.span.now c.in-Some.found.now there (subst P c.in_err-edit.ensures.err put))))

pub invariant_of-self-2 : goal.invariant_of-self-2
invariant_of-self-2 c =
    let running = c.self.inside.running in
    let rest = finished_by_name c.self.inside.finished.entries in
    let new = c.get_mut.follows.lender c.edit-2.new.self in
    let there : named (by_name running.entries) c.args.span.now ≡ Some c.in-Some.found.now = named-get running c.args.span.now ∙ sym c.in-Some.ensures.value in
    let put = puts_span running new c.args.span.now c.edit-2.new.self ((c.get_mut.follows.holds c.edit-2.new.self).3 (search rules)) in
    let P : PlainSpan → Type 0 = λ v. PutsSpan (by_name running.entries) c.args.span.now v (by_name new.entries) in
    puts_history (by_name running.entries ++ rest) (by_name new.entries ++ rest) c.args.span.now (edited (plain_edit c.args.edit) c.in-Some.found.now) c.self.invariant
    (edited_has (plain_edit c.args.edit) c.in-Some.found.now (c.self.invariant c.args.span.now c.in-Some.found.now (there_before (by_name running.entries) rest c.args.span.now c.in-Some.found.now there)))
    (puts_before (by_name running.entries) (by_name new.entries) rest c.args.span.now (edited (plain_edit c.args.edit) c.in-Some.found.now) (subst P c.in_ok-edit.ensures.ok put))

pub invariant_of-self-in_err-edit : goal.invariant_of-self-in_err-edit
invariant_of-self-in_err-edit c =
    let running = c.self.inside.running in
    let rest = finished_by_name c.self.inside.finished.entries in
    let new = c.get_mut.follows.lender c.edit-2.new.self in
    let there : named (by_name running.entries) c.args.span.now ≡ Some c.in-Some.found.now = named-get running c.args.span.now ∙ sym c.in-Some.ensures.value in
    let put = puts_span running new c.args.span.now c.edit-2.new.self ((c.get_mut.follows.holds c.edit-2.new.self).3 (search rules)) in
    let P : PlainSpan → Type 0 = λ v. PutsSpan (by_name running.entries) c.args.span.now v (by_name new.entries) in
    same_histories (by_name running.entries ++ rest) (by_name new.entries ++ rest) c.self.invariant
    (same_before (by_name running.entries) (by_name new.entries) rest
    (put_same (by_name running.entries) (by_name new.entries) c.args.span.now c.in-Some.found.now there (subst P c.in_err-edit.ensures.err put)))
