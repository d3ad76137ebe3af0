use Rattle.std.proofs.Common.{◌≡◌, ◌∙◌, ◌++◌, refl, sym, ap, Some, None, subst, OnErr, Bool, if◌then◌else◌, rules}
use Rattle.std.specs.BTreeMap.{get_by_text}
use Rattle.otel_pipeline.specs.SpanHistory.{PlainSpan, ended}
use Rattle.otel_trace_lines.specs.declared.reply.Answer.TheVariants as answers
use Rattle.otel_trace_session.specs.OpenSpans.{NamedSpans, PutsSpan, SameSpans, by_name, held_spans, named, finished_by_name}
use Rattle.otel_trace_session.specs.Turn.{TurnsFromAny}
use Rattle.opentelemetry.proofs.Clauses.{always_on_err}
use Rattle.otel_trace_session.proofs.HeldLemmas.{absent_before, drops_put, ends_late, late, named-finished, puts_behind, puts_moved, same_before, same_both, there_before}
use Rattle.otel_trace_session.proofs.NamedLemmas.{named-get, puts_span, put_same, same_entries, ended_has, puts_history, same_histories}
use Rattle.otel_trace_session.proofs.TurnLemmas.{EndsNamed, ends_there}
use Rattle.otel_trace_session.proofs.open_spans.OpenSpans.end.Goals as goal

pub returns-in_default-clause-ok : goal.returns-in_default-clause-ok
returns-in_default-clause-ok g c =
    let running = c.self.inside.running in
    let finished = c.self.inside.finished in
    let new = c.get_mut.follows.lender-at-none in
    let absent : named (by_name running.entries) c.args.span.now ≡ None = named-get running c.args.span.now ∙ sym c.in_default.ensures.value in
    let kept = named-finished finished c.args.span.now in
    subst (λ (old : NamedSpans). TurnsFromAny (EndsNamed g.P.SpanProcessor c.args.span.now c.args.moment.0) c.args.provider.now old c.answer_to_late.result c.args.provider.now (by_name new.entries ++ finished_by_name finished.entries)) c.self.view_is
    (ends_late g.P.SpanProcessor c.args.provider.now (held_spans running.entries finished.entries) (by_name new.entries ++ finished_by_name finished.entries) c.args.span.now c.args.moment.0 (get_by_text finished c.args.span.now) c.answer_to_late.result
    (absent_before (by_name running.entries) (finished_by_name finished.entries) c.args.span.now absent ∙ kept) (c.answer_to_late.ensures ∙ ap late kept)
    (same_before (by_name running.entries) (by_name new.entries) (finished_by_name finished.entries) (same_entries running.entries new.entries (ap (λ m. m.entries) c.get_mut.follows.holds-at-none))))

-- where there is no memory to keep who the span was
pub returns-in_err-keep_identity-clause-err : goal.returns-in_err-keep_identity-clause-err
returns-in_err-keep_identity-clause-err g c =
    let running = c.self.inside.running in
    let finished = c.self.inside.finished in
    let new = c.get_mut.follows.lender c.in-Some.found.now in
    let there : named (by_name running.entries) c.args.span.now ≡ Some c.in-Some.found.now = named-get running c.args.span.now ∙ sym c.in-Some.ensures.value in
    let put = puts_span running new c.args.span.now c.in-Some.found.now ((c.get_mut.follows.holds c.in-Some.found.now).3 (search rules)) in
    let same = same_both (by_name running.entries) (by_name new.entries) (finished_by_name finished.entries) (finished_by_name c.keep_identity.new.finished.entries) (put_same (by_name running.entries) (by_name new.entries) c.args.span.now c.in-Some.found.now there put) c.in_err-keep_identity.ensures.err in
    subst (λ (old : NamedSpans). OnErr c.from_residual.result (SameSpans old (by_name new.entries ++ finished_by_name c.keep_identity.new.finished.entries) × (c.args.provider.now ≡ c.args.provider.now))) c.self.view_is
    (always_on_err {P = _ × _} _ (same, refl))

pub returns-in_err-refused-clause-err : goal.returns-in_err-refused-clause-err
returns-in_err-refused-clause-err g c =
    let running = c.self.inside.running in
    let finished = c.self.inside.finished in
    let new = c.get_mut.follows.lender c.end_with_timestamp.new.self in
    let there : named (by_name running.entries) c.args.span.now ≡ Some c.in-Some.found.now = named-get running c.args.span.now ∙ sym c.in-Some.ensures.value in
    let put = puts_span running new c.args.span.now c.end_with_timestamp.new.self ((c.get_mut.follows.holds c.end_with_timestamp.new.self).3 (search rules)) in
    let P : PlainSpan → Type 0 = λ v. PutsSpan (by_name running.entries) c.args.span.now v (by_name new.entries) in
    let same = puts_behind (by_name running.entries) (by_name new.entries) (finished_by_name finished.entries) (finished_by_name c.keep_identity.new.finished.entries) c.args.span.now c.in-Some.found.now (ended c.in-Some.found.now) there
    (put_same (by_name running.entries) (by_name new.entries) c.args.span.now c.in-Some.found.now there (subst P c.in_err-refused.ensures.err.0 put)) c.in_ok-keep_identity.ensures.ok in
    subst (λ (old : NamedSpans). OnErr c.from_residual-in_err-refused.result (SameSpans old (by_name new.entries ++ finished_by_name c.keep_identity.new.finished.entries) × (c.end_with_timestamp.new.provider ≡ c.args.provider.now))) c.self.view_is
    (always_on_err {P = _ × _} _ (same, c.in_err-refused.ensures.err.1))

pub returns-clause-ok : goal.returns-clause-ok
returns-clause-ok g c =
    let running = c.self.inside.running in
    let finished = c.self.inside.finished in
    let middle = c.get_mut.follows.lender c.end_with_timestamp.new.self in
    let new = c.abandon_one-was_open.new.running in
    let more = finished_by_name c.keep_identity.new.finished.entries in
    let there : named (by_name running.entries) c.args.span.now ≡ Some c.in-Some.found.now = named-get running c.args.span.now ∙ sym c.in-Some.ensures.value in
    let put = puts_span running middle c.args.span.now c.end_with_timestamp.new.self ((c.get_mut.follows.holds c.end_with_timestamp.new.self).3 (search rules)) in
    let gone = drops_put (by_name running.entries) (by_name middle.entries) (by_name new.entries) c.args.span.now c.end_with_timestamp.new.self put c.abandon_one-was_open.ensures.gone in
    subst (λ (old : NamedSpans). TurnsFromAny (EndsNamed g.P.SpanProcessor c.args.span.now c.args.moment.0) c.args.provider.now old c.answer_to_end.result c.end_with_timestamp.new.provider (by_name new.entries ++ more)) c.self.view_is
    (ends_there g.P.SpanProcessor c.args.provider.now c.end_with_timestamp.new.provider (held_spans running.entries finished.entries) (by_name new.entries ++ more) c.args.span.now c.args.moment.0 c.in-Some.found.now c.answer_to_end.result
    (there_before (by_name running.entries) (finished_by_name finished.entries) c.args.span.now c.in-Some.found.now there) (record {
      refused = c.in_ok-refused.refused;
      delivers = c.in_ok-refused.ensures.ok.delivers;
      says = c.answer_to_end.ensures ∙ ap (λ (b : Bool). if b then answers.Ended c.in_ok-refused.refused else answers.Ignored) c.is_recording-is_recording.ensures;
      put = puts_moved (by_name running.entries) (by_name new.entries) (finished_by_name finished.entries) more c.args.span.now (ended c.in-Some.found.now) gone c.in_ok-keep_identity.ensures.ok;
      rest = c.in_ok-refused.ensures.ok.rest;
    }))

pub invariant_of-self-in_err-keep_identity : goal.invariant_of-self-in_err-keep_identity
invariant_of-self-in_err-keep_identity g c =
    let running = c.self.inside.running in
    let finished = c.self.inside.finished in
    let new = c.get_mut.follows.lender c.in-Some.found.now in
    let there : named (by_name running.entries) c.args.span.now ≡ Some c.in-Some.found.now = named-get running c.args.span.now ∙ sym c.in-Some.ensures.value in
    let put = puts_span running new c.args.span.now c.in-Some.found.now ((c.get_mut.follows.holds c.in-Some.found.now).3 (search rules)) in
    same_histories (held_spans running.entries finished.entries) (by_name new.entries ++ finished_by_name c.keep_identity.new.finished.entries) c.self.invariant
    (same_both (by_name running.entries) (by_name new.entries) (finished_by_name finished.entries) (finished_by_name c.keep_identity.new.finished.entries)
    (put_same (by_name running.entries) (by_name new.entries) c.args.span.now c.in-Some.found.now there put) c.in_err-keep_identity.ensures.err)

pub invariant_of-self-in_err-refused : goal.invariant_of-self-in_err-refused
invariant_of-self-in_err-refused g c =
    let running = c.self.inside.running in
    let finished = c.self.inside.finished in
    let new = c.get_mut.follows.lender c.end_with_timestamp.new.self in
    let there : named (by_name running.entries) c.args.span.now ≡ Some c.in-Some.found.now = named-get running c.args.span.now ∙ sym c.in-Some.ensures.value in
    let put = puts_span running new c.args.span.now c.end_with_timestamp.new.self ((c.get_mut.follows.holds c.end_with_timestamp.new.self).3 (search rules)) in
    let P : PlainSpan → Type 0 = λ v. PutsSpan (by_name running.entries) c.args.span.now v (by_name new.entries) in
    same_histories (held_spans running.entries finished.entries) (by_name new.entries ++ finished_by_name c.keep_identity.new.finished.entries) c.self.invariant
    (puts_behind (by_name running.entries) (by_name new.entries) (finished_by_name finished.entries) (finished_by_name c.keep_identity.new.finished.entries) c.args.span.now c.in-Some.found.now (ended c.in-Some.found.now) there
    (put_same (by_name running.entries) (by_name new.entries) c.args.span.now c.in-Some.found.now there (subst P c.in_err-refused.ensures.err.0 put)) c.in_ok-keep_identity.ensures.ok)

pub invariant_of-self-2 : goal.invariant_of-self-2
invariant_of-self-2 g c =
    let running = c.self.inside.running in
    let finished = c.self.inside.finished in
    let middle = c.get_mut.follows.lender c.end_with_timestamp.new.self in
    let new = c.abandon_one-was_open.new.running in
    let more = finished_by_name c.keep_identity.new.finished.entries in
    let put = puts_span running middle c.args.span.now c.end_with_timestamp.new.self ((c.get_mut.follows.holds c.end_with_timestamp.new.self).3 (search rules)) in
    let gone = drops_put (by_name running.entries) (by_name middle.entries) (by_name new.entries) c.args.span.now c.end_with_timestamp.new.self put c.abandon_one-was_open.ensures.gone in
    puts_history (held_spans running.entries finished.entries) (by_name new.entries ++ more) c.args.span.now (ended c.in-Some.found.now) c.self.invariant (ended_has c.in-Some.found.now)
    (puts_moved (by_name running.entries) (by_name new.entries) (finished_by_name finished.entries) more c.args.span.now (ended c.in-Some.found.now) gone c.in_ok-keep_identity.ensures.ok)
