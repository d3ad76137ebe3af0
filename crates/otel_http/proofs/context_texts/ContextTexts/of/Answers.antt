use Rattle.std.proofs.Common.{ap}
use Rattle.opentelemetry.specs.Carrier.{Texts}
use Rattle.opentelemetry.proofs.Clauses.{always_on_err}
use Rattle.otel_http.specs.ContextTexts.{texts_of}
use Rattle.otel_http.proofs.ContextTextsLemmas.{gathers, no_memory_for_baggage, no_memory_for_span}
use Rattle.otel_http.proofs.context_texts.ContextTexts.of.Goals as goal

pub returns-in_err-inject_context-clause-err : goal.returns-in_err-inject_context-clause-err
returns-in_err-inject_context-clause-err c =
    always_on_err c.from_residual.result
    (no_memory_for_span c.args.cx.now (texts_of c.new-texts.result) (texts_of c.inject_context.new.injector)
    c.in_err-inject_context.field-0.0 c.in_err-inject_context.ensures.injects)

pub returns-in_err-inject_context-2-clause-err : goal.returns-in_err-inject_context-2-clause-err
returns-in_err-inject_context-2-clause-err c =
    always_on_err c.from_residual-in_err-inject_context-2.result
    (no_memory_for_baggage c.args.cx.now (texts_of c.inject_context.new.injector) (texts_of c.inject_context-2.new.injector)
    c.in_err-inject_context-2.field-0.0 c.in_err-inject_context-2.ensures)

pub returns-clause-ok : goal.returns-clause-ok
returns-clause-ok c =
    gathers c.args.cx.now (texts_of c.new-texts.result) (texts_of c.inject_context.new.injector) (texts_of c.inject_context-2.new.injector)
    (λ name. ap (λ (texts : Texts). texts name) c.new-texts.ensures)
    c.in_ok-inject_context.ensures.injects c.in_ok-inject_context-2.ensures
