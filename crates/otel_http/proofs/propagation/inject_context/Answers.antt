use Rattle.std.proofs.Common.{◌∙◌}
use Rattle.otel_http.specs.ContextFields.{context_fields}
use Rattle.otel_http.specs.ContextTexts.{fields_in, texts_of}
use Rattle.otel_http.specs.Injection.{headers_of}
use Rattle.otel_http.proofs.ContextFieldsLemmas.{none_of, refuses_context, written}
use Rattle.otel_http.proofs.propagation.inject_context.Goals as goal

pub returns-in_default-clause-err : goal.returns-in_default-clause-err
returns-in_default-clause-err c = none_of (context_fields c.args.cx.now) c.args.headers.now c.in_default.ensures.err

pub returns-in_default-clause-injects : goal.returns-in_default-clause-injects
returns-in_default-clause-injects c =
    refuses_context c.args.cx.now c.args.headers.now c.args.headers.now (returns-in_default-clause-err c)

pub returns-clause-injects : goal.returns-clause-injects
returns-clause-injects c =
    (written c.args.cx.now c.args.headers.now (headers_of c.new-injector.result) c.into_headers.result (headers_of c.set_in-set.new.headers)
    (fields_in (texts_of c.in-Ok.texts)) c.set_in-set.result (c.new-injector.ensures.headers ∙ c.replace-taken.ensures.value)
    c.in-Ok.ensures.ok c.into_headers.ensures c.set_in-set.ensures.ok c.set_in-set.ensures.err).injects

pub returns-clause-others : goal.returns-clause-others
returns-clause-others c =
    (written c.args.cx.now c.args.headers.now (headers_of c.new-injector.result) c.into_headers.result (headers_of c.set_in-set.new.headers)
    (fields_in (texts_of c.in-Ok.texts)) c.set_in-set.result (c.new-injector.ensures.headers ∙ c.replace-taken.ensures.value)
    c.in-Ok.ensures.ok c.into_headers.ensures c.set_in-set.ensures.ok c.set_in-set.ensures.err).others
