use Rattle.std.proofs.Common.{◌≡◌, ◌∙◌, ◌++◌, ap, sym, true, false, refl, IfOk, OnErr, Option, is_some, string_bytes, subst, List, ℕ}
use Rattle.std.specs.BTreeMap.{get_by_text}
use Rattle.opentelemetry.proofs.Clauses.{if_ok_map, on_err_map}
use Rattle.otel_pipeline.specs.SpanHistory.{PlainSpan}
use Rattle.otel_trace_lines.specs.declared.reply.Answer.TheVariants as answers
use Rattle.otel_trace_session.specs.Calls.{calls_of}
use Rattle.otel_trace_session.specs.OpenSpans.{MayStart, NamedSpans, SameSpans, by_name, finished_by_name, held_spans, named}
use Rattle.otel_trace_session.specs.SpanTurns.{StartTurn, start_in}
use Rattle.otel_trace_session.specs.Turn.{TurnsFromAny}
use Rattle.otel_trace_session.proofs.HeldLemmas.{free_behind, kept_nowhere, kept_there, named-finished, same_before, some_behind}
use Rattle.otel_trace_session.proofs.NamedLemmas.{same_puts, start_keeps_histories}
use Rattle.otel_trace_session.proofs.TurnLemmas.{starts_taken}
use Rattle.otel_trace_session.proofs.open_spans.OpenSpans.start_in.Goals as goal

-- the name is that of a span that is over
pub returns-then-contains_key-clause-ok : goal.returns-then-contains_key-clause-ok
returns-then-contains_key-clause-ok g c =
    let calls = calls_of g.P.SpanProcessor g.P.Timed g.P.CountsLeftSpans g.P.KeepsBatches g.S.ShouldSample g.G.GivesIds in
    let running = c.self.inside.running in
    let finished = c.self.inside.finished in
    let name = string_bytes c.args.span in
    let start = start_in c.args.tracer.now c.args.cx.now name c.args.builder c.args.now.0 in
    let held = held_spans running.entries finished.entries in
    let is : is_some (get_by_text finished name) ≡ true = subst (λ (n : List ℕ). is_some (get_by_text finished n) ≡ true) c.as_str.ensures.value (sym c.if-contains_key.ensures) in
    let kept = kept_there (get_by_text finished name) (named (finished_by_name finished.entries) name) (named-finished finished name) is in
    let there = some_behind (by_name running.entries) (finished_by_name finished.entries) name kept.0 kept.1 in
    subst (λ (spans : NamedSpans). TurnsFromAny (StartTurn calls start) c.args.provider.now spans answers.SpanExists c.args.provider.now spans) c.self.view_is
    (starts_taken calls c.args.provider.now held held start there.0 there.1 (same_puts held held name there.0 there.1 (λ q. refl)))

pub returns-clause-ok : goal.returns-clause-ok
returns-clause-ok g c =
    let calls = calls_of g.P.SpanProcessor g.P.Timed g.P.CountsLeftSpans g.P.KeepsBatches g.S.ShouldSample g.G.GivesIds in
    let finished = c.self.inside.finished in
    let name = string_bytes c.args.span in
    let rest = finished_by_name finished.entries in
    let start = start_in c.args.tracer.now c.args.cx.now name c.args.builder c.args.now.0 in
    let not : is_some (get_by_text finished name) ≡ false = subst (λ (n : List ℕ). is_some (get_by_text finished n) ≡ false) c.as_str.ensures.value (sym c.if-contains_key.ensures) in
    let free = kept_nowhere (get_by_text finished name) (named rest name) (named-finished finished name) not in
    subst (λ (old : NamedSpans). IfOk c.start_under.result (λ answer. TurnsFromAny (StartTurn calls start) c.args.provider.now old answer c.start_under.new.provider (by_name c.start_under.new.spans.entries ++ rest))) c.self.view_is
    (if_ok_map c.start_under.result (λ answer h. h rest free) c.start_under.ensures.ok)

pub returns-clause-asks : goal.returns-clause-asks
returns-clause-asks g c =
    let calls = calls_of g.P.SpanProcessor g.P.Timed g.P.CountsLeftSpans g.P.KeepsBatches g.S.ShouldSample g.G.GivesIds in
    let running = c.self.inside.running in
    let finished = c.self.inside.finished in
    let name = string_bytes c.args.span in
    let rest = finished_by_name finished.entries in
    let not : is_some (get_by_text finished name) ≡ false = subst (λ (n : List ℕ). is_some (get_by_text finished n) ≡ false) c.as_str.ensures.value (sym c.if-contains_key.ensures) in
    let free = kept_nowhere (get_by_text finished name) (named rest name) (named-finished finished name) not in
    let found : named (by_name running.entries) name ≡ named c.args.self.now name = sym (free_behind (by_name running.entries) rest name free) ∙ ap (λ (spans : NamedSpans). named spans name) c.self.view_is in
    subst (λ (o : Option PlainSpan). OnErr c.start_under.result (MayStart calls c.args.provider.now c.args.cx.now c.args.builder c.args.now.0 o c.start_under.new.provider)) found c.start_under.ensures.asks

pub returns-clause-err : goal.returns-clause-err
returns-clause-err g c =
    let running = c.self.inside.running in
    let rest = finished_by_name c.self.inside.finished.entries in
    let new = by_name c.start_under.new.spans.entries in
    subst (λ (old : NamedSpans). OnErr c.start_under.result (SameSpans old (new ++ rest))) c.self.view_is
    (on_err_map c.start_under.result (λ same. same_before (by_name running.entries) new rest same) c.start_under.ensures.err)

pub invariant_of-self : goal.invariant_of-self
invariant_of-self g c =
    let calls = calls_of g.P.SpanProcessor g.P.Timed g.P.CountsLeftSpans g.P.KeepsBatches g.S.ShouldSample g.G.GivesIds in
    let running = c.self.inside.running in
    let finished = c.self.inside.finished in
    let name = string_bytes c.args.span in
    let rest = finished_by_name finished.entries in
    let new = by_name c.start_under.new.spans.entries in
    let not : is_some (get_by_text finished name) ≡ false = subst (λ (n : List ℕ). is_some (get_by_text finished n) ≡ false) c.as_str.ensures.value (sym c.if-contains_key.ensures) in
    let free = kept_nowhere (get_by_text finished name) (named rest name) (named-finished finished name) not in
    start_keeps_histories (StartTurn calls (start_in c.args.tracer.now c.args.cx.now name c.args.builder c.args.now.0)) c.start_under.result c.args.provider.now c.start_under.new.provider
    (by_name running.entries ++ rest) (new ++ rest) c.self.invariant (if_ok_map c.start_under.result (λ answer h. h rest free) c.start_under.ensures.ok)
    (on_err_map c.start_under.result (λ same. same_before (by_name running.entries) new rest same) c.start_under.ensures.err)
