use Rattle.std.proofs.Common.{◌≡◌, List, ℕ, refl, sym, subst, ap, ◌∙◌}
use Rattle.std.specs.Borrow.{Bor}
use Rattle.std.proofs.lemmas.Result.{IfOk-weaker, MatchResult-weaker}
use Rattle.opentelemetry.specs.Carrier.{Texts}
use Rattle.opentelemetry.specs.Headers.{header_text}
use Rattle.opentelemetry.specs.Plain.{PlainContext, PlainSpanContext}
use Rattle.opentelemetry.proofs.HeaderLemmas.{extracted, not_extracted, ok_unless, text_or_empty}
use Rattle.otel_propagators.specs.UberTraceId.{uber_trace_id_field, ExtractsJaeger, IsUberTraceId, SaysSpan}
use Rattle.otel_propagators.proofs.JaegerLemmas.{read_once}
use Rattle.otel_propagators.proofs.jaeger.propagator.JaegerPropagatorTextMapPropagator.extract_with_context.Goals as goal

pub returns-in-Some-clause-gives : goal.returns-in-Some-clause-gives
returns-in-Some-clause-gives g c =
    let texts : Texts = g.X.Extractor.reads c.args.extractor.now in
    let cx : PlainContext = c.args.cx.now in
    let text : c.unwrap_or.result.now ≡ header_text (texts uber_trace_id_field) =
    ap (λ (b : Bor (List ℕ)). b.now) c.unwrap_or.ensures ∙ text_or_empty c.get.result _ refl ∙ ap header_text c.get.ensures in
    let says : SaysSpan texts c.in-Some.span_context = subst (λ (t : List ℕ). IsUberTraceId t c.in-Some.span_context) text c.in-Some.ensures in
    IfOk-weaker c.with_remote_span_context.result _ _
    (λ found is. subst (ExtractsJaeger cx texts) (sym is)
    (extracted (SaysSpan texts) cx c.in-Some.span_context (λ other also. read_once (header_text (texts uber_trace_id_field)) c.in-Some.span_context other says also) says))
    c.with_remote_span_context.ensures.ok

pub returns-in-None-clause-gives : goal.returns-in-None-clause-gives
returns-in-None-clause-gives g c =
    let texts : Texts = g.X.Extractor.reads c.args.extractor.now in
    let cx : PlainContext = c.args.cx.now in
    let text : c.unwrap_or.result.now ≡ header_text (texts uber_trace_id_field) =
    ap (λ (b : Bor (List ℕ)). b.now) c.unwrap_or.ensures ∙ text_or_empty c.get.result _ refl ∙ ap header_text c.get.ensures in
    MatchResult-weaker c.clone.result c.clone.ensures.cases
    (λ found is. subst (ExtractsJaeger cx texts) (sym is)
    (not_extracted (SaysSpan texts) cx (λ context says. c.in-None.ensures context (subst (λ (t : List ℕ). IsUberTraceId t context) (sym text) says))))
    (λ _ _. tt)

pub returns-in-None-clause-infallible : goal.returns-in-None-clause-infallible
returns-in-None-clause-infallible g c = λ infallible.
    let texts : Texts = g.X.Extractor.reads c.args.extractor.now in
    let text : c.unwrap_or.result.now ≡ header_text (texts uber_trace_id_field) =
    ap (λ (b : Bor (List ℕ)). b.now) c.unwrap_or.ensures ∙ text_or_empty c.get.result _ refl ∙ ap header_text c.get.ensures in
    let unread : (context : PlainSpanContext) → ¬ (SaysSpan texts context) =
    λ context says. c.in-None.ensures context (subst (λ (t : List ℕ). IsUberTraceId t context) (sym text) says) in
    ok_unless _ c.clone.result c.clone.ensures.cases (infallible.shares_no_state unread, infallible.shares_no_baggage)
