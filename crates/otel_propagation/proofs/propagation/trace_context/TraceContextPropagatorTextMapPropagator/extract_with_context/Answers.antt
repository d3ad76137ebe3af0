use Rattle.std.proofs.Common.{◌≡◌, ℕ, List, [], refl, sym, ap, subst, ◌∙◌}
use Rattle.std.specs.Borrow.{Bor}
use Rattle.std.proofs.lemmas.Result.{IfOk-weaker, MatchResult-weaker}
use Rattle.opentelemetry.specs.Carrier.{Texts}
use Rattle.opentelemetry.specs.Plain.{PlainContext, PlainSpanContext}
use Rattle.otel_propagation.specs.Traceparent.{header_text, traceparent_field, ExtractsTraceContext, IsTraceparent, SaysState}
use Rattle.opentelemetry.proofs.HeaderLemmas.{ok_unless, text_or_empty}
use Rattle.otel_propagation.proofs.TraceparentLemmas.{extracted, not_extracted}
use Rattle.otel_propagation.proofs.propagation.trace_context.TraceContextPropagatorTextMapPropagator.extract_with_context.Goals as goal

pub returns-in_default-clause-gives : goal.returns-in_default-clause-gives
returns-in_default-clause-gives g c =
    let texts : Texts = g.X.Extractor.reads c.args.extractor.now in
    let cx : PlainContext = c.args.cx.now in
    let text = ap (λ (b : Bor (List ℕ)). b.now) c.unwrap_or.ensures ∙ text_or_empty c.get.result _ refl ∙ ap header_text c.get.ensures in
    MatchResult-weaker c.clone.result c.clone.ensures.cases
    (λ found is. subst (ExtractsTraceContext cx texts) (sym is) (not_extracted cx texts c.unwrap_or.result.now text c.in_default.ensures))
    (λ _ _. tt)

pub returns-clause-gives : goal.returns-clause-gives
returns-clause-gives g c =
    let texts : Texts = g.X.Extractor.reads c.args.extractor.now in
    let cx : PlainContext = c.args.cx.now in
    let text = ap (λ (b : Bor (List ℕ)). b.now) c.unwrap_or.ensures ∙ text_or_empty c.get.result _ refl ∙ ap header_text c.get.ensures in
    let says = subst (λ t. SaysState t c.in_ok-state.state) c.get-2.ensures c.in_ok-state.ensures.state in
    let made : c.new.result ≡ record c.in-Some.parent { trace_state = c.in_ok-state.state } =
    c.new.ensures
    ∙ (λ i. record {
      trace_id = c.trace_id.ensures i;
      span_id = c.span_id.ensures i;
      trace_flags = c.trace_flags.ensures i;
      is_remote = c.is_remote.ensures i;
      trace_state = c.in_ok-state.state;
    }) in
    IfOk-weaker c.with_remote_span_context.result _ _
    (λ found is. subst (ExtractsTraceContext cx texts) (sym is) (extracted cx texts c.unwrap_or.result.now c.in-Some.parent c.new.result c.in_ok-state.state text c.in-Some.ensures says made))
    c.with_remote_span_context.ensures.ok

pub returns-in_default-clause-infallible : goal.returns-in_default-clause-infallible
returns-in_default-clause-infallible g c = λ infallible.
    let text = ap (λ (b : Bor (List ℕ)). b.now) c.unwrap_or.ensures ∙ text_or_empty c.get.result _ refl ∙ ap header_text c.get.ensures in
    let unread : (parent : PlainSpanContext) → ¬ (IsTraceparent (header_text (g.X.Extractor.reads c.args.extractor.now traceparent_field)) parent) = λ parent is. c.in_default.ensures parent (subst (λ (t : List ℕ). IsTraceparent t parent) (sym text) is) in
    ok_unless _ c.clone.result c.clone.ensures.cases (infallible.shares_no_state unread, infallible.shares_no_baggage)

pub returns-in_err-state-clause-infallible : goal.returns-in_err-state-clause-infallible
returns-in_err-state-clause-infallible g c = λ infallible.
    let text = ap (λ (b : Bor (List ℕ)). b.now) c.unwrap_or.ensures ∙ text_or_empty c.get.result _ refl ∙ ap header_text c.get.ensures in
    let says = infallible.reads_no_state c.in-Some.parent (subst (λ (t : List ℕ). IsTraceparent t c.in-Some.parent) text c.in-Some.ensures) in
    let ok = c.in_err-state.ensures.free (subst (λ header. SaysState header []) (sym c.get-2.ensures) says) in
    absurd cc
