use Rattle.std.proofs.Common.{sym, subst}
use Rattle.std.proofs.lemmas.Result.{IfOk-weaker, MatchResult-weaker}
use Rattle.opentelemetry.specs.Carrier.{Texts}
use Rattle.opentelemetry.specs.Plain.{PlainContext}
use Rattle.opentelemetry.proofs.HeaderLemmas.{extracted, not_extracted}
use Rattle.otel_propagators.specs.B3Headers.{ExtractsB3, SaysSpan}
use Rattle.otel_propagators.proofs.B3Lemmas.{span_once}
use Rattle.otel_propagators.proofs.b3.propagator.B3PropagatorTextMapPropagator.extract_with_context.Goals as goal

pub returns-in-Some-clause-gives : goal.returns-in-Some-clause-gives
returns-in-Some-clause-gives g c =
    let texts : Texts = g.X.Extractor.reads c.args.extractor.now in
    let cx : PlainContext = c.args.cx.now in
    IfOk-weaker c.with_remote_span_context.result _ _
    (λ found is. subst (ExtractsB3 cx texts) (sym is) (extracted (SaysSpan texts) cx c.in-Some.span_context (λ other also. span_once texts c.in-Some.span_context other c.in-Some.ensures also) c.in-Some.ensures))
    c.with_remote_span_context.ensures.ok

pub returns-in-None-clause-gives : goal.returns-in-None-clause-gives
returns-in-None-clause-gives g c =
    let texts : Texts = g.X.Extractor.reads c.args.extractor.now in
    let cx : PlainContext = c.args.cx.now in
    MatchResult-weaker c.clone.result c.clone.ensures.cases
    (λ found is. subst (ExtractsB3 cx texts) (sym is) (not_extracted (SaysSpan texts) cx c.in-None.ensures))
    (λ _ _. tt)
