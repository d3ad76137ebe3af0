use Rattle.std.proofs.Common.{inr, refl, ap, subst, ◌∙◌}
use Rattle.std.proofs.lemmas.Result.{on_ok_weaker, on_err_weaker}
use Rattle.opentelemetry.specs.PlainContexts.{current_span_context}
use Rattle.opentelemetry.specs.Carrier.{Texts, SetsText}
use Rattle.opentelemetry.specs.Plain.{PlainSpanContext}
use Rattle.opentelemetry.specs.Tracestate.{tracestate_text}
use Rattle.otel_propagation.specs.Traceparent.{traceparent_field, traceparent_of, tracestate_field, InjectsTraceContext, IsSpanContext, IsValid}
use Rattle.otel_propagation.proofs.TraceparentLemmas.{both_set, headers_carry, still_set}
use Rattle.otel_propagation.proofs.propagation.trace_context.TraceContextPropagatorTextMapPropagator.inject_context.Goals as goal

pub returns-clause-injects : goal.returns-clause-injects
returns-clause-injects g c =
    let old : Texts = g.I.Injector.texts c.args.injector.now in
    let between : Texts = g.I.Injector.texts c.set.new.self in
    let new : Texts = g.I.Injector.texts c.set-2.new.self in
    let span : PlainSpanContext = current_span_context c.args.cx.now in
    let span_is = c.span_context-span_context.ensures in
    let first : SetsText old between traceparent_field (traceparent_of span) =
    subst (SetsText old between traceparent_field) (c.in_ok-parent.ensures ∙ ap traceparent_of span_is) c.in_ok-set.ensures.ok in
    let state = c.in_ok-state.ensures.ok ∙ ap tracestate_text (c.trace_state.ensures ∙ ap (λ (s : PlainSpanContext). s.trace_state) span_is) in
    record {
      set = λ valid. on_ok_weaker c.set-2.result (λ set. both_set old between new span first (subst (SetsText between new tracestate_field) state set)) c.set-2.ensures.ok;
      nothing = λ not. absurd (not (subst IsValid span_is (c.if-not-is_valid.ensures.0 refl)));
      err = on_err_weaker c.set-2.result (λ same. inr (still_set old between new traceparent_field (traceparent_of span) first same)) c.set-2.ensures.err;
    }

pub returns-clause-carried : goal.returns-clause-carried
returns-clause-carried g c =
    let new : Texts = g.I.Injector.texts c.set-2.new.self in
    let span_is = c.span_context-span_context.ensures in
    let is : IsSpanContext c.span_context-span_context.result.now = record {
      trace_id = c.span_contexts_fit.ensures.trace_id;
      span_id = c.span_contexts_fit.ensures.span_id;
      trace_state = c.span_contexts_fit.ensures.trace_state;
    } in
    let injects : InjectsTraceContext c.args.cx.now (g.I.Injector.texts c.args.injector.now) c.set-2.result new = returns-clause-injects g c in
    on_ok_weaker c.set-2.result
    (λ sets valid. headers_carry (current_span_context c.args.cx.now) new (subst IsSpanContext span_is is) valid sets.parent sets.state)
    (injects.set (subst IsValid span_is (c.if-not-is_valid.ensures.0 refl)))
