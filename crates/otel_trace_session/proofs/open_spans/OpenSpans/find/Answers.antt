-- The open span of a name is looked at first.
use Rattle.std.proofs.Common.{◌≡◌, ◌∙◌, ap, sym, Option, Some, None}
use Rattle.std.specs.Option.{option_map}
use Rattle.opentelemetry.specs.Plain.{PlainSpanContext}
use Rattle.otel_pipeline.specs.SpanHistory.{PlainSpan}
use Rattle.otel_trace_session.specs.Ended.{ended_span}
use Rattle.otel_trace_session.specs.OpenSpans.{NamedSpans, by_name, finished_by_name, named}
use Rattle.otel_trace_session.proofs.HeldLemmas.{absent_before, named-finished, there_before}
use Rattle.otel_trace_session.proofs.NamedLemmas.{named-get}
use Rattle.otel_trace_session.proofs.open_spans.OpenSpans.find.Goals as goal

-- who a span is that may be there
abbrev context_of : Option PlainSpan → Option PlainSpanContext
context_of span = option_map (λ (s : PlainSpan). s.span_context) span

pub returns-in-Some : goal.returns-in-Some
returns-in-Some c =
    let running = c.self.inside.running in
    let there : named c.args.self.now c.args.span.now ≡ Some c.in-Some.found.now = ap (λ (spans : NamedSpans). named spans c.args.span.now) (sym c.self.view_is)
    ∙ there_before (by_name running.entries) (finished_by_name c.self.inside.finished.entries) c.args.span.now c.in-Some.found.now (named-get running c.args.span.now ∙ sym c.in-Some.ensures.value) in
    ap Some c.span_context.ensures ∙ sym (ap context_of there)

pub returns-in-Some-get : goal.returns-in-Some-get
returns-in-Some-get c =
    let running = c.self.inside.running in
    let finished = c.self.inside.finished in
    let there : named c.args.self.now c.args.span.now ≡ Some (ended_span c.in-Some-get.ended.now) = ap (λ (spans : NamedSpans). named spans c.args.span.now) (sym c.self.view_is)
    ∙ absent_before (by_name running.entries) (finished_by_name finished.entries) c.args.span.now (named-get running c.args.span.now ∙ sym c.in_default.ensures.value)
    ∙ named-finished finished c.args.span.now ∙ ap (option_map ended_span) (sym c.in-Some-get.ensures.value) in
    ap Some c.span_context-in-Some-get.ensures ∙ sym (ap context_of there)

pub returns-in-None : goal.returns-in-None
returns-in-None c =
    let running = c.self.inside.running in
    let finished = c.self.inside.finished in
    let absent : named c.args.self.now c.args.span.now ≡ None = ap (λ (spans : NamedSpans). named spans c.args.span.now) (sym c.self.view_is)
    ∙ absent_before (by_name running.entries) (finished_by_name finished.entries) c.args.span.now (named-get running c.args.span.now ∙ sym c.in_default.ensures.value)
    ∙ named-finished finished c.args.span.now ∙ ap (option_map ended_span) (sym c.in-None.ensures.value) in
    sym (ap context_of absent)
